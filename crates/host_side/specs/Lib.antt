pub mod Spare
pub mod Words
