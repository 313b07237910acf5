pub mod Begins
pub mod Inside
pub mod Keys
pub mod Limits
pub mod Order
pub mod Reading
pub mod Steps
pub mod Views
