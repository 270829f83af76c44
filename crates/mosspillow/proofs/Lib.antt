-- The laws of what the C library hands back.
pub mod Boundary
pub mod Handing
pub mod Settled
