-- The laws of the byte map's vacant handles.
pub mod Vacancies
pub mod Equal
pub mod Settled
