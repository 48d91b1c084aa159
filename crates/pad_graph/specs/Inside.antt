-- Words that only private functions use.
pub mod Fields
pub mod Growth
pub mod Hanging
pub mod Marks
pub mod Steps
pub mod Tables
