pub mod Again
mod Below
pub mod Sets
