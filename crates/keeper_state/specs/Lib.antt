pub mod Crashes
pub mod Entries
pub mod Lemmas
pub mod Slot
pub mod State
