-- The laws of integer sets.
pub mod Laws
pub mod Settled
