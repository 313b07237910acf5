pub mod Below
pub mod Fronts
pub mod Grammar
pub mod Moments
pub mod PathSets
pub mod PlainParts
