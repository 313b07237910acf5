pub mod Below
pub mod Held
pub mod Order
pub mod Repeats
pub mod Story
pub mod Wishes
