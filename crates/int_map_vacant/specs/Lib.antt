-- The definitions of the integer map's vacant handles.
pub mod Numbers
