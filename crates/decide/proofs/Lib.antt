pub mod Keys
pub mod Table
pub mod Elements
pub mod Plain
pub mod Forms
pub mod Coming
pub mod Runs
