-- The laws of the reading calls of integer sets.
pub mod Settled
