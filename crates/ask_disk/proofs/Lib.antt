pub mod One
pub mod Within
