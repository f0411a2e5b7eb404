pub mod Outputs
pub mod Planned
pub mod Fields
pub mod Kept
