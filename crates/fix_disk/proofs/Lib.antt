pub mod Overwritten
mod StateLemmas
mod ImageLemmas
mod LogLemmas
mod PastLemmas
pub mod WriteLemmas
mod FileLemmas
mod StreamLemmas
mod RoomLemmas
