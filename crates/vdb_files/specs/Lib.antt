pub mod Written
pub mod Recorded
