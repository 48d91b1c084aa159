pub mod Identity
pub mod Inside
pub mod Machine
pub mod Rooms
pub mod Tables
pub mod Whole
