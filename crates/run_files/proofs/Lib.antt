pub mod PlaceLemmas
pub mod Taking
pub mod Zips
pub mod Brought
pub mod TakenImages
pub mod Kept
