pub mod State
pub mod Moved
pub mod Leads
pub mod Tie
pub mod Knows
pub mod Receive
pub mod Inside
pub mod Laws
