pub mod Never
pub mod Pruning
pub mod Binders
pub mod Readers
pub mod PredicateWords
pub mod Tags
pub mod StatsCodes
pub mod KeptAnswers
