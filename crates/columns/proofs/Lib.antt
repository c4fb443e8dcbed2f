pub mod Storing
pub mod Cleared
