pub mod Bytes
pub mod Flags
pub mod Names
