-- The definitions on lists that the crates share.
pub mod Bytes
