pub mod Filter
pub mod Plan
pub mod Reports
