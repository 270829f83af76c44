-- The definitions of integer tables.
pub mod Memory
pub mod Places
pub mod Probing
pub mod Scanning
pub mod Seeking
pub mod Maps
pub mod Sets
pub mod Kinds
pub mod Steps
