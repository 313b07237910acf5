pub mod AtomWords
pub mod CopyLemmas
pub mod FaultLemmas
