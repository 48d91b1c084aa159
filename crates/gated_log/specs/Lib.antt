pub mod Extents
pub mod Holds
pub mod Inside
pub mod Ledger
pub mod Lemmas
pub mod Log
pub mod Refused
