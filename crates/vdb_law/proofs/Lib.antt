pub mod Places
pub mod Law
pub mod After
pub mod Words
pub mod FileNames
pub mod NoWords
