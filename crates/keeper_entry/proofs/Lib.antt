mod Keys
mod Pushing
