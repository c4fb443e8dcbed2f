pub mod Classes
pub mod Elements
pub mod Forms
pub mod Coming
pub mod Runs
