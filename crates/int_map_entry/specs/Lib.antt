-- The definitions of the integer map's entries.
pub mod Numbers
pub mod Calls
