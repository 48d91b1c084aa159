pub mod Messages
pub mod Tip
pub mod Summary
pub mod Inside
