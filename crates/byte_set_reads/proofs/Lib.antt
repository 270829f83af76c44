-- What the contracts of the reading calls of byte sets settle.
pub mod Settled
