pub mod Folders
pub mod Telling
pub mod Machine
pub mod Owned
pub mod Limits
pub mod Faults
