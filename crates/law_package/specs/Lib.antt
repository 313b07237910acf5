pub mod Packages
pub mod Records
