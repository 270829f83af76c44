-- The digest and the home slot, as the paper has them.
pub mod Digest
pub mod Home
