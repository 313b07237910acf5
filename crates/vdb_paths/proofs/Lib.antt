pub mod Packages
pub mod Placed
