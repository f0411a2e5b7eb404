pub mod Cut
pub mod Advancing
pub mod Outcome
pub mod Copying
