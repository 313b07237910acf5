pub mod Granted
pub mod Owners
pub mod Settled
pub mod Tidy
pub mod Turns
