-- What the contracts of the reading calls of byte maps settle.
pub mod Settled
pub mod Laws
