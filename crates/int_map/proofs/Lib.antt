-- The laws of integer maps.
pub mod Laws
pub mod Settled
