pub mod Span
pub mod Answer
pub mod Seeks
pub mod Given
pub mod Whole
pub mod Sealable
