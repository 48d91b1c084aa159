pub mod Spaces
pub mod Digits
pub mod Fronts
pub mod Inserted
pub mod Words
pub mod OneMeaning
pub mod Scripts
pub mod Few
