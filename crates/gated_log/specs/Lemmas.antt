-- Lemmas that the laws of the trait need.
pub mod Laws
