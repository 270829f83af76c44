-- The laws of the reading calls of integer maps.
pub mod Settled
pub mod Laws
