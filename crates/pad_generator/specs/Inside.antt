-- Words that only the contracts of private functions cite.
pub mod KeptItem
pub mod Letters
pub mod Recent
