pub mod Reading
pub mod RecordValue
pub mod Spelling
