pub mod Acts
pub mod Laws
pub mod Reading
pub mod Told
