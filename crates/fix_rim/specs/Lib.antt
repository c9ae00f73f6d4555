pub mod OptionalLink
pub mod StoreSlot
pub mod Rim
