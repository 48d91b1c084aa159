pub mod Inside
pub mod Channels
pub mod Crashes
pub mod Histories
pub mod Machine
pub mod Runs
pub mod Stored
pub mod Words
