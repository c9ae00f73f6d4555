pub mod Values
pub mod Lent
pub mod Admin
pub mod Say
pub mod Follows
