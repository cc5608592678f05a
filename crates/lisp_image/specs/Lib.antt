pub mod SymbolMap
pub mod Places
pub mod Image
pub mod Lends
