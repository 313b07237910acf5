pub mod Digits
pub mod Order
pub mod Trim
pub mod Steps
pub mod Faults
pub mod Begins
