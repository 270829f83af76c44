-- The laws of the insert rule in integer tables.
pub mod Storing
