pub mod Begun
pub mod Sending
