pub mod Tests
pub mod Sound
pub mod Only
pub mod Does
pub mod Places
pub mod Reasons
