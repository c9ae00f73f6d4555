pub mod Command
pub mod Acceptor
pub mod Initiator
pub mod Script
