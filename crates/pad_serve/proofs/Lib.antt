mod Leaving
mod Reaching
mod Running
mod EndsOfRuns
mod Stored
mod Untouched
mod Writing
