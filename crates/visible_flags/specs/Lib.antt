pub mod Settings
pub mod Variants
