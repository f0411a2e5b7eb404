pub mod Cuts
pub mod Capacities
pub mod Left
pub mod Added
pub mod Reading
pub mod Taking
pub mod Nine
pub mod Escapes
