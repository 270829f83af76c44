-- The definitions of walks of byte sets.
pub mod Numbers
