pub mod Chains
pub mod Faults
pub mod Files
pub mod Items
pub mod Profiles
pub mod Stacks
