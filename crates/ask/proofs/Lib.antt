pub mod Ranges
pub mod Judging
pub mod Answering
pub mod Looking
