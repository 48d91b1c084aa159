-- Lemmas that the ghost members of types need.
pub mod TreeFalls
