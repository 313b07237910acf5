pub mod Images
pub mod Loads
