-- Words that only private functions use.
pub mod Refused
pub mod Made
