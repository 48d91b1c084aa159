pub mod Elements
pub mod Readings
pub mod Spelled
