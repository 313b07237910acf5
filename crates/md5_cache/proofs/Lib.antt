pub mod EntryLemmas
pub mod FieldLemmas
pub mod Keys
pub mod Lines
mod FormLemmas
