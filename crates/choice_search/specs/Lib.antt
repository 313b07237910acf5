pub mod Leaves
pub mod Laws
pub mod Shape
pub mod Path
pub mod Visit
pub mod Jumping
pub mod Frames
