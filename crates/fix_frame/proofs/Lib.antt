pub mod Items
pub mod Steps
pub mod Waiting
pub mod Drains
pub mod Sealables
pub mod Samples
