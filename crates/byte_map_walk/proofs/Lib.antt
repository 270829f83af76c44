-- What the contracts of walks of byte maps settle.
pub mod Settled
