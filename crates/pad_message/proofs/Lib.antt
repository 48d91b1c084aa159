pub mod Adopting
pub mod Arrays
pub mod Values
pub mod RoundTrip
pub mod OneMessage
pub mod Intervals
pub mod CallerLemmas
