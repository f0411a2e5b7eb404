pub mod Deciding
pub mod Aborting
mod Telling
