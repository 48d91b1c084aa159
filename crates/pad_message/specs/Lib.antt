pub mod Adopt
pub mod Content
pub mod Data
pub mod Kind
pub mod Message
