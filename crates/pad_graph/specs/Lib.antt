pub mod Added
pub mod Chain
pub mod Graph
pub mod Inside
pub mod Laws
pub mod State
