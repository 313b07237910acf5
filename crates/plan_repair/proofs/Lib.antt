pub mod Staying
pub mod Repairs
pub mod Whole
