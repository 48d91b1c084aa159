mod Histories
mod Reaching
mod Refusals
mod Standing
mod Stores
mod Tables
