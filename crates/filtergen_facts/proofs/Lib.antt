pub mod Members
pub mod Settling
pub mod Dividing
pub mod Apart
pub mod Leaving
pub mod Joining
pub mod Narrowed
