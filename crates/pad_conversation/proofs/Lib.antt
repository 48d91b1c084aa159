mod Parts
mod Runs
mod Steps
