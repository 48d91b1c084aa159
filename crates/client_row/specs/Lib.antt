pub mod Kept
pub mod Along
pub mod Laws
