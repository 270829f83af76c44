-- The definitions of the byte map's entries.
pub mod Numbers
pub mod Calls
