pub mod Parts
pub mod Act
pub mod SessionAct
pub mod Script
pub mod Requests
pub mod Inside
