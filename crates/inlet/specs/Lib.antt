pub mod Calls
pub mod Messages
pub mod Pump
pub mod Reads
