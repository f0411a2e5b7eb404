pub use Rattle.filter_diagrams.proofs.Builders
pub mod Ends
pub mod Accepting
