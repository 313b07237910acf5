pub mod Booking
pub mod Claiming
pub mod Happened
pub mod Quiet
pub mod Site
pub mod Staging
pub mod Stopping
pub mod Waiting
