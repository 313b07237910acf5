pub mod Closed
pub mod Chains
pub mod Truth
pub mod Cleared
pub mod There
pub mod Apart
pub mod Whole
