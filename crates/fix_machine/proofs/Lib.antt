mod DeadlineLemmas
mod TimedLemmas
mod EventLemmas
pub mod NumberLemmas
mod RowLemmas
mod OrderLemmas
mod RisesLemmas
mod CauseLemmas
mod MoveLemmas
