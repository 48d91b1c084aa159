pub mod Words
pub mod Item
pub mod Blocks
pub mod Contents
pub mod Laws
pub mod Inside
