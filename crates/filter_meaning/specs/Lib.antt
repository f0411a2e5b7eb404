pub use Rattle.filter_tree.specs.Trees
pub mod Meaning
pub mod Looks
pub mod Notes
pub mod Laws
