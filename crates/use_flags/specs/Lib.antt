pub mod Changes
pub mod Faults
pub mod Items
pub mod Words
