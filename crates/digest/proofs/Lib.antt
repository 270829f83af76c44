-- The laws of the digest and of the home slot.
pub mod Bounds
pub mod Cut
pub mod Four
pub mod Product
pub mod Refusals
pub mod Settled
pub mod Start
pub mod Steps
