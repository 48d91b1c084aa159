pub mod Data
pub mod Name
pub mod Spells
