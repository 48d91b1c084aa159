-- What the proofs of other crates may cite of this one's.
pub use Rattle.pad_transform.proofs.Cases.{Moved, behind, within, before, across, last_step, insert-through}
pub use Rattle.pad_transform.proofs.Order.{IsImage, image_of, ordered-through}
pub use Rattle.pad_transform.proofs.Law.{CanApply-moved, inserted-moved, RemovesOnlyKept-moved}
