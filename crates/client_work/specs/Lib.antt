pub mod Switch
pub mod Carrying
pub mod Inside
