pub mod Universe
pub mod Solutions
pub mod Tree
pub mod Laws
pub mod Blame
pub mod Possible
pub mod Reasons
