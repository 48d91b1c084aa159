pub mod CallerLemmas
pub mod Written
