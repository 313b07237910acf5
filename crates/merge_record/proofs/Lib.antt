pub mod Loop
pub mod Numbers
pub mod Steps
pub mod Whole
pub mod Written
