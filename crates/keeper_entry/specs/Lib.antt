pub mod Entry
pub mod History
pub mod Index
