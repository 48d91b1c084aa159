-- What the proofs of other crates cite.
pub use Rattle.pad_branch.proofs.Choosing.{Passes, linked_new}
