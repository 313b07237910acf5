pub mod Configured
pub mod Faults
pub mod Offers
