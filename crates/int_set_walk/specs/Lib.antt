-- The definitions of walks of integer sets.
pub mod Numbers
