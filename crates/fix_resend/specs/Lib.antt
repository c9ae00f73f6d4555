pub mod Cut
pub mod Walks
pub mod Waiting
pub mod Allowed
