pub mod Texts
pub mod HexDigits
pub mod NameOrder
pub mod Ascii
pub mod Joins
pub mod Halves
pub mod CallerLemmas
