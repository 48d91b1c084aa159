-- Words that only the contracts of private functions cite.
pub mod Change
pub mod Folder
pub mod Memory
pub mod Pending
pub mod Step
