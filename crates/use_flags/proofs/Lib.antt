pub mod Cuts
pub mod More
pub mod Next
pub mod Once
