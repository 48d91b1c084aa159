pub mod Edits
pub mod Texts
pub mod Runs
pub mod Steps
pub mod Allowed
