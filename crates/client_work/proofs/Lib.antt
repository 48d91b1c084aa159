pub mod Grounds
pub mod Loops
pub mod Parts
pub mod Typing
