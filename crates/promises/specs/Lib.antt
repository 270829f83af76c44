-- The published calls of each kind, and what a slot's raw words say.
pub mod MapAlphabet
pub mod SetAlphabet
pub mod IntMap
pub mod IntSet
pub mod ByteSet
pub mod ByteMap
pub mod Marks
