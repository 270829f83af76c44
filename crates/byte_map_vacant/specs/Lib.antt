-- The definitions of the byte map's vacant handles.
pub mod Numbers
pub mod Planning
