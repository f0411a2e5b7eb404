pub mod Ran
pub mod Fielded
pub mod Printing
pub mod Laid
pub mod Planned
pub mod FirstBad
pub mod Flushed
