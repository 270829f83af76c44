-- The laws of the byte map's entries.
pub mod Equal
pub mod Answers
pub mod Settled
