-- The definitions of walks of integer maps.
pub mod Numbers
