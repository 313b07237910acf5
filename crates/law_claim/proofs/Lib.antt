pub mod Lists
pub mod Granted
pub mod Settled
pub mod Tidy
pub mod Turns
