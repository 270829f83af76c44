-- The definitions of the byte map's union.
pub mod Needs
