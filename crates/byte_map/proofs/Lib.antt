-- The laws of the storing calls of byte maps.
pub mod Laws
pub mod Settled
