pub mod Answers
pub mod Diagrams
pub mod Fields
pub mod Calls
