pub mod Calls
pub mod Decoder
pub mod Frames
pub mod Front
pub mod Packets
