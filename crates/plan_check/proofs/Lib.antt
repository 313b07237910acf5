pub mod Binds
pub mod Taking
pub mod Accepting
pub mod Clear
pub mod KeptOut
pub mod AtHome
pub mod Clearing
