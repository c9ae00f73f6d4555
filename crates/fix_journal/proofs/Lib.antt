mod Files
mod Records
pub mod Moments
mod SyncedLemmas
mod AppendLemmas
pub mod Unique
pub mod Gates
mod IndexLemmas
pub mod SoundLemmas
pub mod AsRead
mod CallLemmas
mod HeadLemmas
mod CursorLemmas
mod ReadLemmas
mod PassLemmas
mod ScanLemmas
pub mod RoomLemmas
mod WindowLemmas
mod MakeLemmas
mod OpenLemmas
pub mod Meaning
pub mod PayloadLemmas
