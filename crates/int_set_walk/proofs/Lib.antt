-- What the contracts of walks of integer sets settle.
pub mod Settled
