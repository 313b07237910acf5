pub mod Chains
pub mod FolderLemmas
pub mod Lines
pub mod NoFault
pub mod WholeLemmas
pub mod WordLemmas
