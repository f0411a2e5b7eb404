pub use Rattle.filter_meaning.specs.Meaning
pub use Rattle.filtergen_facts.specs.Weights
pub use Rattle.filtergen_code.specs.Compiling
pub use Rattle.filtergen_trim.specs.Reaching
pub mod Expressions
pub mod Faults
