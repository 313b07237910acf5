pub mod Plans
pub mod Sound
pub mod Lives
pub mod Firm
pub mod Accepted
