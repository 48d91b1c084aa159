-- What the proofs of other crates may cite of this one's.
pub use Rattle.pad_stroke.proofs.MarkLaws.{same_true, same_self, stays_true, stays_none, stripped_marks, marks_come_from_either, second_marks_stay, marks_stand_once}
pub use Rattle.pad_stroke.proofs.ShownMarks.{marks_are_shown, patched-one}
pub use Rattle.pad_stroke.proofs.Turns.{CanApply-typed, text_after-typed, length-typed, length-marks_of, NoRepeat-marks_of, NoneInBoth-fresh}
pub use Rattle.pad_stroke.proofs.Moved.{CanApply-moved_to}
pub use Rattle.pad_stroke.proofs.WholePairs.{pairs_stay_whole}
pub use Rattle.pad_stroke.proofs.InTurnLaws.{in_turn_patch, in_turn_marks, in_turn_counted, in_turn_row, in_turn_first, in_turn_removes, in_turn_removes_just}
pub use Rattle.pad_stroke.proofs.AnyWork.{carried_applies, carried_removes, carried_inserted, carried_marks, carried_texts, stripped_applies, stripped_removes, stripped_counted, stripped_inserted, stripped_is_filter, stripped_texts}
