pub mod Digests
pub mod LetIn
pub mod Places
pub mod Records
pub mod Runs
