pub mod Blanks
pub mod Bytes
pub mod Limits
pub mod Members
