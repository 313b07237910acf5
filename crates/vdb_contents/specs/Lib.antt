pub mod Contents
pub mod Cuts
pub mod Reading
