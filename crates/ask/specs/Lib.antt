pub mod Outcomes
pub mod Sorts
pub mod First
