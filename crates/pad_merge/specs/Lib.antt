pub mod UnitSource
pub mod Origin
pub mod CopiedUnit
pub mod Merge
pub mod Inside
pub mod Laws
