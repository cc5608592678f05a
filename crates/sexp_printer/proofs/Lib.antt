pub mod Spelled
pub mod TokenLemmas
