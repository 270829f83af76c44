-- The definitions that the contracts of `lines` cite.
pub mod Grammar
pub mod Reader
pub mod Decimal
