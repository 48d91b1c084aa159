pub mod Inside
pub mod Lemmas
pub mod Rope
