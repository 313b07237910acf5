pub mod Flags
pub mod Layers
pub mod Offered
pub mod Words
