pub mod Ends
pub mod Leaves
pub mod Logs
pub mod Refused
pub mod Turns
