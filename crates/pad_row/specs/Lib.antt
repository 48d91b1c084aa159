pub mod Laws
pub mod Own
pub mod Pairs
pub mod Edits
pub mod TakenBack
