-- What the proofs of other crates cite.
pub use Rattle.pad_model.proofs.Chains.{linked_more, path_more, linked_unique, linked_below, sound_below, linked_short}
pub use Rattle.pad_model.proofs.Orders.{less_itself, never_better_itself, better_than, better_asym}
pub use Rattle.pad_model.proofs.Chosen.{through_itself, through_trans, root_on_chosen, chosen_path}
pub use Rattle.pad_model.proofs.Roots.{two_ends}
pub use Rattle.pad_model.proofs.Reports.{same_reversed, differ_same, next_same, through_same, counts_same}
pub use Rattle.pad_model.proofs.Overtaking.{few_overtake}
pub use Rattle.pad_model.proofs.Chosen.{nothing_overtook}
pub use Rattle.pad_model.proofs.OneBest.{same_members as order_is_no_part}
pub use Rattle.pad_model.proofs.Reports.{order_changes_no_best, repeat_changes_no_report}
