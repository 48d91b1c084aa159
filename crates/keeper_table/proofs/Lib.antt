mod Begins
mod Channels
mod Starts
