pub mod Judged
pub mod Values
