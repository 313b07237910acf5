pub mod Wishes
pub mod Reasons
pub mod Plans
pub mod Answers
pub mod Trying
