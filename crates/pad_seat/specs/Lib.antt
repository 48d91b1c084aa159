pub mod State
pub mod Texts
pub mod Lines
pub mod Calls
