-- What the proofs of other crates may cite of this one's.
pub use Rattle.pad_patch.proofs.Laid.{IsLaid, Inside, StartsFrom, inside_of, laid, IsLaid-before, ordered_laid, inside_laid}
pub use Rattle.pad_patch.proofs.Patched.{map-take, map-drop, map-patched_pieces, map-patched, patched-next, units_of_piece, piece_read, patched-read, part, length-part, range-drop}
pub use Rattle.pad_patch.proofs.Copies.{copy_from, text_after-copy, copy_from-none, copy_from-split, copy_from-replaced, IsNext, IsRange-copy_from, Whole, InsertsTexts, InsertsTexts-all, length-text_after, IsText-text_after, CanApply-laid}
pub use Rattle.pad_patch.proofs.Has.{Has, has_left, has_right, has_cases, at_has, has_at, contains_has, has_contains, has_map, map_has, get-map, get_below, below_get, get-drop, get-take, get-range, range_get, reads, map-map, some-injective, has_somes, range-append, somes_of, somes-append, somes-map, somes-some, somes-none, map-const, replicate-map, read_all}
pub use Rattle.pad_patch.proofs.Undone.{patched-inverse}
pub use Rattle.pad_patch.proofs.Kept.{removed_or_kept, kept_not_removed, Drawn, drawn, read_drawn, patched-drawn, kept_element, element_kept, kept_or_new, new_drawn, same_length, length-patched, kept_by_inverse, somes-patched, inserted-within, RemovedIn, removes_of, of_removes}
pub use Rattle.pad_patch.proofs.Inverses.{same_operation, texts_next, text_after-inverse, CanApply-inverse_all}
pub use Rattle.pad_patch.proofs.Backs.{texts-inverse}
pub use Rattle.pad_patch.proofs.Twice.{inverse_turns_round, kept_once, laid_undo, removed_has, has_removed, removed_at_places}
