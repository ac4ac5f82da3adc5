pub mod Block
pub mod Field
pub mod Standing
pub mod Writing
pub mod Counted
pub mod Reader
pub mod Walking
