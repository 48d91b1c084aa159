mod Cut
mod Damaged
mod Joined
mod Named
mod Rested
mod Single
