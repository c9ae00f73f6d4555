pub mod Zone
pub mod Days
pub mod Window
pub mod Read
