pub mod Text
pub mod Name
pub mod Hash
pub mod Digits
pub mod Plain
pub mod Place
pub mod Joins
