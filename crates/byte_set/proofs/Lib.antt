-- The laws of the storing calls of byte sets.
pub mod Laws
pub mod Settled
