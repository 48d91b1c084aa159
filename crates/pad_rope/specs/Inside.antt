-- Words that only the contracts of private functions cite.
pub mod Saved
pub mod Shape
pub mod Tree
