pub mod FromFiles
pub mod Playing
pub mod Reports
pub mod Stepping
pub mod Telling
