pub mod Rows
pub mod Table
pub mod Index
pub mod Groups
pub mod Required
pub mod Checks
