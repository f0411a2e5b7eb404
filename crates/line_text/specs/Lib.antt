pub mod Faults
pub mod Files
pub mod Fields
pub mod Forms
pub mod Sending
pub mod Strings
pub mod Texts
pub mod Time
