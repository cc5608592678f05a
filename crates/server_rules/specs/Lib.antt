pub mod Built
pub mod Rules
pub mod Simple
pub mod Beside
pub mod Leaving
pub mod Going
pub mod Standard
