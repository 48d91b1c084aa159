pub mod State
pub mod Refusal
pub mod Calls
pub mod Hear
