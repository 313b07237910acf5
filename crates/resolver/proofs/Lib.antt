pub mod Plain
pub mod Leaves
pub mod Hopeless
pub mod Offers
pub mod Counted
