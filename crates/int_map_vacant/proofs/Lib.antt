-- The laws of the integer map's vacant handles.
pub mod Vacancies
pub mod Equal
pub mod Settled
