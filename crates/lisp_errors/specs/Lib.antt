pub mod Causes
pub mod Limits
pub mod Texts
pub mod Wanted
