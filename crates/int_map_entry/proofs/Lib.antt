-- The laws of the integer map's entries.
pub mod Equal
pub mod Answers
pub mod Settled
