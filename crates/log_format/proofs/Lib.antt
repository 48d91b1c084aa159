pub mod CallerLemmas
mod Groups
