pub mod Table
pub mod Carried
pub mod Laws
