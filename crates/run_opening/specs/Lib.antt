pub mod Order
pub mod Rows
pub mod Faults
pub mod Repairs
