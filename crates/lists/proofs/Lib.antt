-- The laws on lists that the crates share.
pub mod Bytes
pub mod Parts
pub mod Tests
