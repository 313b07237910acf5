pub mod Faults
pub mod Last
pub mod Shown
pub mod Texts
