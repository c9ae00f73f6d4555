mod SlotLemmas
mod RimLemmas
pub mod Carrying
