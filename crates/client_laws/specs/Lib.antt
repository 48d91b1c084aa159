pub mod Past
pub mod Befalls
pub mod Agreement
pub mod Laws
