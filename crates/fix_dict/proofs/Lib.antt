pub mod PartLemmas
pub mod TagLemmas
pub mod TableLemmas
pub mod RoomLemmas
pub mod AllowedLemmas
pub mod JsonLemmas
pub mod TwiceLemmas
mod NoteLemmas
pub mod RoleLemmas
