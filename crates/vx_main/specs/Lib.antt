pub mod InMemory
pub mod Runs
pub mod Statuses
