pub mod Blocked
pub mod Parts
pub mod Ways
