-- That every row of the worked numbers holds.
pub mod Worked
