pub mod Amid
pub mod Runs
pub mod Exits
