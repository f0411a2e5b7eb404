pub mod Tables
pub mod Calls
pub mod Numbers
