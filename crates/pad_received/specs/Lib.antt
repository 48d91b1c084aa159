pub mod Contents
pub mod Inside
pub mod Progress
pub mod Refusal
pub mod Report
