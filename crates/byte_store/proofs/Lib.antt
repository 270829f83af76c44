-- The laws of the insert rule in byte tables.
pub mod Marks
pub mod Rooms
pub mod Storing
pub mod Turns
