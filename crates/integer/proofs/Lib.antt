pub mod Spelling
pub mod Laws
pub mod Signs
pub mod Windows
pub mod Steps
pub mod Writes
