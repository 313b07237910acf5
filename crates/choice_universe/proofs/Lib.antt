pub mod Filled
pub mod Listed
