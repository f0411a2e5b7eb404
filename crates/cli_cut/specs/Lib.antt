pub mod Printing
pub mod Telling
pub mod Captures
pub mod Objects
pub mod Cutting
pub mod Checking
pub mod Parts
pub mod Reporting
