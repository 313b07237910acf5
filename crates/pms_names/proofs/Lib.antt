pub mod Ascii
pub mod Faults
pub mod Keys
pub mod Sets
