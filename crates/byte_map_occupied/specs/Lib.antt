-- The definitions of the byte map's occupied handles.
pub mod Numbers
pub mod Planning
