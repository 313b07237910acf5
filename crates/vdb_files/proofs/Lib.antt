pub mod Gathered
pub mod Words
pub mod Order
pub mod Folder
pub mod Again
