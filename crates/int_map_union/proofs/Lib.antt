-- The laws of the integer map's union.
pub mod Needing
pub mod Joining
pub mod Settled
