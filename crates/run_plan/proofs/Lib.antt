pub mod Beginnings
pub mod Course
pub mod Ending
pub mod Joined
pub mod Ordered
pub mod Promised
pub mod Whole
pub mod Unmade
