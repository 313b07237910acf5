pub mod Marked
pub mod Found
pub mod SameLeaves
pub mod Unseen
pub mod Shut
pub mod Unsettled
pub mod Way
pub mod MayStand
