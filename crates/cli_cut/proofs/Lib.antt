pub mod Elements
pub mod Ending
pub mod Whole
pub mod Several
pub mod Telling
