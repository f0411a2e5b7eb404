pub mod Edits
pub mod Suggestions
