pub mod Symbols
pub mod Operators
pub mod Parts
pub mod Rows
pub mod Table
pub mod Parsing
pub mod Firsts
pub mod Fits
