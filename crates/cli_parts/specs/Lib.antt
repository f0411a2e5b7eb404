pub mod Joined
pub mod Lines
pub mod Ranges
pub mod Selected
