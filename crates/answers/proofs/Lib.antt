-- The laws of the paper's numbers.
pub mod Told
pub mod Equal
pub mod Said
