pub mod Channel
pub mod Lines
pub mod Log
