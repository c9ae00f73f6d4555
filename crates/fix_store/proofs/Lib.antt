pub mod Spellings
mod NumberSets
mod EntryLists
pub mod RecordLists
pub mod Ends
mod CountLemmas
mod Places
mod FindLemmas
mod KeepLemmas
mod WalkLemmas
mod OpenLemmas
mod RoomLemmas
mod CallLemmas
