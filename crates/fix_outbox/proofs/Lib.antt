pub mod TotalLemmas
pub mod MergeLemmas
pub mod OrderLemmas
pub mod ClosingLemmas
pub mod SettleLemmas
