pub mod Stack
pub mod Seeking
pub mod Resumed
