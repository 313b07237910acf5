pub mod Keys
pub mod Made
pub mod Places
pub mod Removing
pub mod Laws
