pub mod Lasting
pub mod Lines
