pub mod Pool
pub mod Numbered
