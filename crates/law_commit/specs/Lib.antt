pub mod Claims
pub mod Commits
pub mod Crashes
pub mod Lit
