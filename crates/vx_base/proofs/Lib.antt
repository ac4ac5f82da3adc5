pub mod AlignedLemmas
pub mod MatchingLemmas
pub mod MemoryLemmas
pub mod TakingLemmas
