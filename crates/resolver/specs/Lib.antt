pub mod Tree
pub mod Nodes
pub mod Jumping
pub mod Form
pub mod Answers
