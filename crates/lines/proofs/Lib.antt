-- The laws of `lines`: numbers and lines are read as the grammar says, and digits are written so that they read back.
pub mod Numbers
pub mod Line
pub mod Printing
pub mod Rows
