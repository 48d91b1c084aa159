mod Members
mod Numbers
pub mod CallerLemmas
