-- The paper's numbers of refusals and answers.
pub mod Cases
pub mod Numbers
pub mod Refusals
pub mod Returned
pub mod Said
