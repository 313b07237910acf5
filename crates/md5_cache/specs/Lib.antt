pub mod Entries
pub mod EntryFaults
pub mod FieldFaults
pub mod Fields
pub mod PairFaults
pub mod Pairs
pub mod Seen
