pub mod Telling
pub mod Answering
pub mod Keeping
pub mod Running
pub mod Acknowledging
pub mod Numbers
pub mod Small
