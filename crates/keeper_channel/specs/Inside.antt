-- Words of private functions.
pub mod Adding
pub mod Refusals
