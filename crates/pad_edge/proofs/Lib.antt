mod Lists
mod Openings
