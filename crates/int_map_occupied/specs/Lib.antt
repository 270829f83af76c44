-- The definitions of the integer map's occupied handles.
pub mod Numbers
