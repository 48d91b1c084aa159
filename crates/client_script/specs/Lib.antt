pub mod Hearing
pub mod Words
pub mod State
pub mod View
pub mod Script
