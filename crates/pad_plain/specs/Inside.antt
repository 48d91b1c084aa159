-- Words of private functions.
pub mod Table
pub mod Walk
pub mod Candidate
pub mod Links
pub mod Through
pub mod Chosen
pub mod Among
