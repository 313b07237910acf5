pub mod Beside
pub mod Fair
pub mod Lit
pub mod Members
pub mod Stays
pub mod Whole
pub mod Crashes
