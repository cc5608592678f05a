pub mod Clauses
pub mod Resumed
