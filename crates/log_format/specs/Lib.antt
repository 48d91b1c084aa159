pub mod Damages
pub mod File
pub mod Form
pub mod Frame
pub mod Frames
