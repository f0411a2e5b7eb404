pub mod Filter
pub mod Counting
pub mod Lines
pub mod Captures
pub mod Telling
