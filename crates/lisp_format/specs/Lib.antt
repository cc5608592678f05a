pub mod Directives
pub mod Formatted
pub mod Hexadecimal
pub mod Passes
pub mod Causes
