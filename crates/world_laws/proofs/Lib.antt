pub mod Staying
pub mod Leaving
pub mod Acting
pub mod Reading
pub mod Telling
