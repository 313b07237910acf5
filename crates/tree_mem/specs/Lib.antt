pub mod Calls
pub mod Fault
pub mod Image
pub mod Items
pub mod MemDisk
pub mod MemSink
pub mod MemTree
pub mod Record
