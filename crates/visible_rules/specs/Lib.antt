pub mod Heard
pub mod Index
pub mod Items
pub mod Keywords
pub mod Near
