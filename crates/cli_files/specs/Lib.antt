pub mod Reading
pub mod Paths
pub mod Late
