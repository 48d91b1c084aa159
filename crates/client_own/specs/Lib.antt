pub mod Rows
pub mod Stands
pub mod Life
pub mod Laws
