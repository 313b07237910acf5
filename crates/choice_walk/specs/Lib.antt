pub mod Marks
pub mod Settled
pub mod Way
pub mod Blame
pub mod Possible
