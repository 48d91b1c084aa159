pub mod Mark
pub mod Work
pub mod Row
pub mod InTurn
pub mod Edit
pub mod Through
pub mod Strip
pub mod Laws
