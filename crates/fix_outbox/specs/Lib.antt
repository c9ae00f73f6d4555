pub mod Merge
pub mod Queue
pub mod Closing
pub mod Passes
