pub mod Numerals
pub mod Queries
pub mod Reads
