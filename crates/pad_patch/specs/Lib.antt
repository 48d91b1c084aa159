pub mod Operation
pub mod Piece
pub mod Misfit
pub mod Removed
pub mod UnitStore
pub mod Inverse
pub mod Laws
