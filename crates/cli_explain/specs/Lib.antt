pub mod Printed
pub mod Forms
pub mod Explained
pub mod Telling
pub mod Captures
pub mod Range
pub mod Explaining
