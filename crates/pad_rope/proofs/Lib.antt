pub mod Ranges
pub mod Heights
pub mod Fronts
pub mod Replaced
