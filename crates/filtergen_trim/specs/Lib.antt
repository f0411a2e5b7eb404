pub mod Reaching
pub mod Sound
pub mod Trimming
