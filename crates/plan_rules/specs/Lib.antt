pub mod Verdicts
pub mod Order
pub mod Refusals
pub mod Pairs
pub mod Rules
pub mod Changes
pub mod Places
