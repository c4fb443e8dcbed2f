pub mod Decimal
pub mod Writes
pub mod Signs
pub mod Lines
pub mod Lengths
pub mod Digits
