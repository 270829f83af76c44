-- The laws of the byte map's union.
pub mod Needing
pub mod Rooms
pub mod Plans
pub mod Joining
pub mod Settled
