pub mod HeldLemmas
pub mod LookLemmas
pub mod KnownLemmas
pub mod GreetLemmas
mod PostLemmas
mod SendLemmas
mod DraftingLemmas
