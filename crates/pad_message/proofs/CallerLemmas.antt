-- What the proofs of other crates may cite of this one's.
pub use Rattle.pad_message.proofs.OneMessage.{spells_one}
