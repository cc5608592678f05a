pub mod World
pub mod Arriving
pub mod Running
pub mod Journal
pub mod Legal
pub mod Pipe
pub mod Served
pub mod Wire
