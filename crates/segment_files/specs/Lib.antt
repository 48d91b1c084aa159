pub mod Damages
pub mod Doubt
pub mod Joined
pub mod Names
pub mod Rests
