-- The laws of the changes of a byte table.
pub mod Copies
pub mod Falling
pub mod Lent
pub mod Lists
pub mod Plans
