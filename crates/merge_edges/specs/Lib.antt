pub mod Changes
pub mod Needs
pub mod Waits
pub mod Edges
pub mod Found
pub mod Views
