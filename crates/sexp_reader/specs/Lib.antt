pub mod Answers
pub mod Atoms
pub mod Faults
pub mod Grammar
pub mod Names
pub mod Reading
pub mod Tokens
