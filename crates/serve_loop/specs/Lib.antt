pub mod Connected
pub mod Delivery
pub mod Hangs
pub mod Inside
pub mod Laws
pub mod Moments
pub mod Run
pub mod Stop
