pub mod Commands
pub mod Host
pub mod Faults
pub mod Grammar
pub mod Lines
pub mod Named
pub mod Numbers
pub mod Requests
