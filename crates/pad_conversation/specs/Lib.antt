pub mod Machine
pub mod Told
pub mod Refused
pub mod Run
pub mod Ends
pub mod Inside
