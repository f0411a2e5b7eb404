pub use Rattle.filter_tree.specs.Trees
pub use Rattle.filter_meaning.specs.Meaning
pub mod Weights
pub mod Facts
pub mod Lists
pub mod Faults
