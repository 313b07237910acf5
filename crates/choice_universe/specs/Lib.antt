pub mod Filled
pub mod Offers
