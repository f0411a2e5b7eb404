pub mod Bodies
pub mod Copied
pub mod Cutting
pub mod Joining
pub mod Selecting
pub mod Stretches
pub mod Whole
