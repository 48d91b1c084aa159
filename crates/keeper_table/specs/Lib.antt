pub mod Entry
pub mod Files
pub mod Span
pub mod Table
