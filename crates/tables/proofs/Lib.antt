-- The loops over a table's slots, turn by turn.
pub mod Calls
pub mod Cells
pub mod Equal
pub mod Pacing
pub mod Lent
pub mod Scanning
pub mod Trail
pub mod Settled
