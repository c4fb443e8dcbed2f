pub mod Cases
pub mod Sides
pub mod Counts
pub mod Every
