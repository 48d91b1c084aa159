-- Lemmas that the laws of the trait and of the volume in memory need.
pub mod Follows
pub mod Images
pub mod Names
pub mod Others
pub mod Replay
pub mod Since
pub mod Sound
pub mod Torn
