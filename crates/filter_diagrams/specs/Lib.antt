pub mod Programs
pub mod Actions
pub mod States
pub mod Walks
