pub mod Sound
pub mod Ends
