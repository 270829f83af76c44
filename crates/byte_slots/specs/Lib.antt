-- The definitions of byte tables.
pub mod Keys
pub mod Marks
pub mod Memory
pub mod Places
pub mod Sound
pub mod Kinds
pub mod Maps
pub mod Sets
pub mod Planning
pub mod Probing
pub mod Seeking
pub mod Scanning
pub mod Surveying
