pub mod Packets
pub mod Symbols
pub mod Steps
