-- The definitions of the insert rule in byte tables.
pub mod Stores
