pub mod CutLemmas
pub mod WalkLemmas
pub mod WaitingLemmas
pub mod StandardFacts
pub mod AllowedLemmas
