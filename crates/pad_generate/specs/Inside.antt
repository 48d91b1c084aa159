-- Words of private functions.
pub mod Receiving
