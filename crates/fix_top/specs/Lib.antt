pub mod Words
pub mod Serve
pub mod Names
pub mod Sample
