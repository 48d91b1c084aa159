-- Words that only private functions use.
pub mod Tables
pub mod Receiving
pub mod Marks
