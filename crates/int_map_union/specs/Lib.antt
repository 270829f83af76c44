-- The definitions of the integer map's union.
pub mod Calls
