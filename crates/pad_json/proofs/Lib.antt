pub mod Values
pub mod PlainTexts
pub mod Compact
pub mod Names
pub mod CallerLemmas
