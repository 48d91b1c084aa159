pub mod Lemmas
pub mod Serving
