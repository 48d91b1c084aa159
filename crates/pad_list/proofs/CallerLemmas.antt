-- What the proofs of other crates cite.
pub use Rattle.pad_list.proofs.Members.{contains_head, contains_more, contains_cases, contains_none, contains_middle, Split, split, distinct_short}
pub use Rattle.pad_list.proofs.Numbers.{no_repeat_front, no_repeat_push, no_repeat_without, no_repeat_append, contains_around, contains_append, contains_map, mapped_from, one_number, number_none, number_same, number_more, number_listed, number_without, number_less, number_with, number_by_key, number_decided, contains_dec}
