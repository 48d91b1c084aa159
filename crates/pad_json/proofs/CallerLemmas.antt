-- What the proofs of other crates may cite of this one's.
pub use Rattle.pad_json.proofs.Compact.{compact_spells}
pub use Rattle.pad_json.proofs.Values.{one_list, one_value}
