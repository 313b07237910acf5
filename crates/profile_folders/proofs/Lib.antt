pub mod Followed
pub mod Listed
pub mod Members
pub mod Once
pub mod Places
pub mod Standing
pub mod Steps
pub mod Variables
