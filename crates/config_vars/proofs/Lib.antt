pub mod Stacking
pub mod Judging
