pub mod Courses
pub mod Ends
pub mod Merges
pub mod Runs
