-- The three demands for each kind.
pub mod Spans
pub mod Marks
pub mod IntMap
pub mod IntSet
pub mod ByteSet
pub mod ByteMap
