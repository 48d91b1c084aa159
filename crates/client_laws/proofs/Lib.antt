pub mod Lists
pub mod Holding
pub mod Hearing
pub mod Calling
pub mod Living
pub mod Waiting
pub mod Agreeing
pub mod Answered
