-- What calls that read find in a table, and what a step of a walk tells.
pub mod Handing
pub mod Reading
