pub mod Numbers
pub mod Shifts
pub mod Nodes
pub mod Values
pub mod Loads
pub mod Quotients
pub mod Divisions
