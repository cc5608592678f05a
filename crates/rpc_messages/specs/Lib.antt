pub mod Cut
pub mod Incoming
pub mod Outgoing
pub mod Plain
pub mod Waiting
