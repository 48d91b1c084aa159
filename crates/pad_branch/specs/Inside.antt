-- Words that only private functions use.
pub mod Candidates
pub mod Forward
pub mod Passing
