pub mod ZoneLemmas
pub mod DayLemmas
pub mod WindowLemmas
pub mod ReadLemmas
