-- What the proofs of other crates cite.
pub use Rattle.pad_chain.proofs.Names.{name_dec}
pub use Rattle.pad_chain.proofs.Leading.{leads_append}
