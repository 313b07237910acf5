mod Forms
mod Gathered
mod Once
pub mod Pieces
mod Reached
mod Readers
mod Runs
mod Said
mod Sets
mod Split
mod Steps
mod Whole
