pub mod Frames
pub mod Stands
pub mod Accesses
pub mod Guards
