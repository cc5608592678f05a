pub mod Case
pub mod Plain
pub mod Printed
pub mod UserText
