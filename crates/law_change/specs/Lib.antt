pub mod Changes
pub mod Packages
