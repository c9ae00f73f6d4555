pub mod Calls
pub mod Connection
pub mod Handing
pub mod Outside
