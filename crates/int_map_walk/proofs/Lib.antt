-- What the contracts of walks of integer maps settle.
pub mod Settled
