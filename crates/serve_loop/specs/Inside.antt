-- Words that only the contracts of private functions cite.
pub mod Load
pub mod MayHang
pub mod Taken
