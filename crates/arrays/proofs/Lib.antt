-- The laws of loops over whole arrays.
pub mod Below
