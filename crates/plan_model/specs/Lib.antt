pub mod Entering
pub mod Offers
pub mod Faults
pub mod Linked
pub mod Asking
pub mod Accepting
pub mod Laws
