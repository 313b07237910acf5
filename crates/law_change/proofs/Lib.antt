pub mod Exchanged
pub mod Pieces
pub mod Together
