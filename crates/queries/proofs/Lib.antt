pub mod Numbers
pub mod Split
pub mod Words
pub mod Outcomes
