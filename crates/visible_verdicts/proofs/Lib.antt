pub mod Alike
pub mod Found
pub mod Judged
pub mod Named
pub mod Placed
pub mod Ranked
pub mod Reasons
pub mod OneVerdict
