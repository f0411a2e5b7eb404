pub mod Types
pub mod Primitives
pub mod Parentheses
pub mod Canonical
