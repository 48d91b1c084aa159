pub mod Beginning
pub mod Stepping
pub mod Stopping
