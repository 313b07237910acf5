pub mod Grammar
pub mod View
pub mod Texts
pub mod Truth
pub mod Faults
