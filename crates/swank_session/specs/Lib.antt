pub mod Stream
pub mod Promises
pub mod Causes
pub mod Course
