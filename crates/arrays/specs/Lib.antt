-- The definitions of whole arrays.
pub mod Whole
