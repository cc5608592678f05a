pub mod Names
pub mod Calls
pub mod Info
pub mod Texts
pub mod Kept
pub mod Commands
pub mod Finishes
pub mod Acts
