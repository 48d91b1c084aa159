mod Chains
mod Orders
mod OneBest
mod Decide
mod Exists
mod Existence
mod Chosen
mod Roots
mod OneChoice
mod Overtaking
mod Stays
mod Adoption
mod Reports
pub mod CallerLemmas
