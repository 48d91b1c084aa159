pub mod FileVolume
pub mod Lost
