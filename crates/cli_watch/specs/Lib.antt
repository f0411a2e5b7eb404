pub mod Frames
pub mod Unseen
pub mod Waiting
