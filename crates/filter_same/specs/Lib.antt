pub use Rattle.filter_diagrams.specs.Programs
pub mod Same
pub mod Filters
pub mod Findings
