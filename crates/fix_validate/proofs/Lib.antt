pub mod RowLemmas
pub mod FieldLemmas
pub mod IndexLemmas
pub mod GroupLemmas
pub mod RequiredLemmas
pub mod ReadingLemmas
pub mod FrameLemmas
mod NoteLemmas
pub mod SeatLemmas
pub mod GroupedLemmas
