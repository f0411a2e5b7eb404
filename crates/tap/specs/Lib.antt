pub mod Filters
pub mod Headline
pub mod Answers
pub mod Refusals
pub mod Opening
pub mod Faults
