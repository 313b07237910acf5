pub mod Below
pub mod Crowded
pub mod Judged
pub mod Moved
pub mod Owned
