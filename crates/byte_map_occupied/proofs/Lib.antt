-- The laws of the byte map's occupied handles.
pub mod Equal
pub mod Values
pub mod Removals
pub mod Settled
