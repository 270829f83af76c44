-- What the contracts of walks of byte sets settle.
pub mod Settled
