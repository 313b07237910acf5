pub mod Home
pub mod Asks
pub mod Binding
pub mod PackageRules
pub mod Kept
pub mod Turns
