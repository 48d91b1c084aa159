-- What calls inside the crate do.
pub mod Loading
pub mod Taking
