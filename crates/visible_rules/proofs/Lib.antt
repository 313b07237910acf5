pub mod Hearing
pub mod Naming
pub mod Putting
pub mod Weaving
