-- What the proofs of other crates cite.
pub use Rattle.client_copy.proofs.Repairing.{same_text}
