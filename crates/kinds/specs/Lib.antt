-- The definitions that all kinds of tables share.
pub mod Calls
pub mod Columns
pub mod Handing
pub mod Marks
pub mod Moved
pub mod Probing
pub mod Rooms
pub mod Scanning
pub mod Stepping
pub mod Stores
pub mod Told
pub mod Published
pub mod Owed
pub mod Reserving
