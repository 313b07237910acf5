pub mod Packages
pub mod Fields
pub mod Database
pub mod Step
