pub mod Answer
pub mod Calls
pub mod Entries
pub mod Inside
pub mod Keeper
