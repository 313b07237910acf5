pub mod Accept
pub mod Bytes
pub mod Complete
pub mod Stops
pub mod Unique
