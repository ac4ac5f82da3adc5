pub mod OrderLemmas
pub mod RowLemmas
pub mod RowsLemmas
pub mod ExactLemmas
pub mod NameSteps
pub mod WordSteps
pub mod SameNames
