pub mod Stroke
pub mod Strokes
pub mod Laws
pub mod Row
pub mod Runs
pub mod Removal
pub mod TakingOut
