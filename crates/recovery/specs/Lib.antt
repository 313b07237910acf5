pub mod Calls
pub mod Faults
pub mod Found
pub mod Phases
pub mod Promise
pub mod Stages
