pub mod CallerLemmas
mod Completing
mod Loads
mod Outputs
mod Running
mod Turns
mod Waiting
