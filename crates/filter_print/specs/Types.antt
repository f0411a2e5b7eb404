-- The names of types and of their variants, for the other files of definitions.
pub use Rattle.filter_print.specs.declared.parentheses.Parentheses.{Parentheses}
pub use Rattle.filter_print.specs.declared.parentheses.Parentheses.TheVariants.{All, Needed}
pub use Rattle.filter_tree.specs.declared.tree.Comparison.{Comparison}
pub use Rattle.filter_tree.specs.declared.tree.Comparison.TheVariants as comparison
pub use Rattle.filterlang.specs.declared.token.Joint.{Joint}
pub use Rattle.filterlang.specs.declared.token.Joint.TheVariants.{And, Or}
pub use Rattle.filter_tree.specs.declared.tree.Operator.{Operator}
pub use Rattle.filter_tree.specs.declared.tree.Operator.TheVariants as operator
pub use Rattle.filter_tree.specs.declared.tree.Direction.{Direction}
pub use Rattle.filter_tree.specs.declared.tree.Direction.TheVariants.{Dst, Src, SrcAndDst, SrcOrDst}
pub use Rattle.filter_tree.specs.declared.tree.Layer.{Layer}
pub use Rattle.filter_tree.specs.declared.tree.Layer.TheVariants as layers
pub use Rattle.filter_tree.specs.declared.tree.Network.{Network}
pub use Rattle.filter_tree.specs.declared.tree.Network.TheVariants as networks
pub use Rattle.filter_tree.specs.declared.tree.Plain.{Plain}
pub use Rattle.filter_tree.specs.declared.tree.Plain.TheVariants as plain
pub use Rattle.filter_tree.specs.declared.tree.Primitive.{Primitive}
pub use Rattle.filter_tree.specs.declared.tree.Primitive.TheVariants as primitives
pub use Rattle.filter_tree.specs.declared.tree.Size.{Size}
pub use Rattle.filter_tree.specs.declared.tree.Size.TheVariants as sizes
pub use Rattle.filter_tree.specs.declared.tree.Transport.{Transport}
pub use Rattle.filter_tree.specs.declared.tree.Transport.TheVariants as transports
