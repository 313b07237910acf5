pub mod Cuts
pub mod Exclusive
pub mod Named
pub mod Numerals
pub mod Plans
pub mod Refusals
