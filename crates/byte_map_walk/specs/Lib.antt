-- The definitions of walks of byte maps.
pub mod Numbers
