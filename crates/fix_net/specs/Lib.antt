pub mod Adapters
pub mod Waits
