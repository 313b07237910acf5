pub mod Disk
pub mod Faults
pub mod Fixed
pub mod Moments
pub mod ObjectValue
pub mod Output
pub mod PathSets
pub mod Paths
