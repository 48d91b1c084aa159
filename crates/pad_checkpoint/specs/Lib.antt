pub mod Place
pub mod Cut
pub mod Links
pub mod Below
pub mod Settled
pub mod Laws
