-- The definitions of the changes of a byte table.
pub mod Needs
