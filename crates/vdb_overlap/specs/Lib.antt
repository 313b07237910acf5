pub mod Overlaps
pub mod Indexes
