pub mod Tally
pub mod Identities
pub mod Plans
pub mod Cycle
pub mod Entries
