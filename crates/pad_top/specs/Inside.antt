-- Words of private functions.
pub mod Ending
pub mod Progress
pub mod Refusal
pub mod Told
