-- The laws of the integer map's occupied handles.
pub mod Equal
pub mod Values
pub mod Settled
