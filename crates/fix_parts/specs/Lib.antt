pub mod Link
pub mod App
pub mod Tape
pub mod Memory
pub mod Line
pub mod Streams
pub mod Adapters
