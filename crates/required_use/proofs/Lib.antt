pub mod BrokenLemmas
pub mod CopyLemmas
pub mod FaultLemmas
