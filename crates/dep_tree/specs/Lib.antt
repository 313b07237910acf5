pub mod View
pub mod Grammar
pub mod Truth
pub mod Texts
pub mod Faults
