pub mod Images
pub mod Misfits
