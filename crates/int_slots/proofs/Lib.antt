-- The laws of integer tables.
pub mod Bridge
pub mod Beside
pub mod Lawful
pub mod Places
pub mod Sizes
pub mod Walked
pub mod Seeking
pub mod Calls
pub mod MapSizes
pub mod SetSizes
pub mod Lent
