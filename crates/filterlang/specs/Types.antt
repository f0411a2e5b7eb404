-- The names of the crate's own types and of their variants, for the other files of definitions.
pub use Rattle.filterlang.specs.declared.fault.Fault.{Fault}
pub use Rattle.filterlang.specs.declared.fault.Fault.TheVariants as faults
pub use Rattle.filter_tree.specs.declared.tree.Comparison.{Comparison}
pub use Rattle.filter_tree.specs.declared.tree.Comparison.TheVariants as comparison
pub use Rattle.filterlang.specs.declared.token.Joint.{Joint}
pub use Rattle.filterlang.specs.declared.token.Joint.TheVariants.{And, Or}
pub use Rattle.filterlang.specs.declared.token.Joint.TheVariants as joint
pub use Rattle.filterlang.specs.declared.token.Kind.{Kind}
pub use Rattle.filterlang.specs.declared.token.Kind.TheVariants as kind
pub use Rattle.filter_tree.specs.declared.tree.Operator.{Operator}
pub use Rattle.filter_tree.specs.declared.tree.Operator.TheVariants.{Divide, Minus}
pub use Rattle.filter_tree.specs.declared.tree.Operator.TheVariants as operator
pub use Rattle.filterlang.specs.declared.token.Parts.{Parts}
pub use Rattle.filterlang.specs.declared.token.Parts.TheVariants.{Four, Three, Two}
pub use Rattle.filterlang.specs.declared.token.Protocol.{Protocol}
pub use Rattle.filterlang.specs.declared.token.Protocol.TheVariants as protocols
pub use Rattle.filterlang.specs.declared.token.Side.{Side}
pub use Rattle.filterlang.specs.declared.token.Side.TheVariants as side
pub use Rattle.filterlang.specs.declared.token.Token.{Token}
pub use Rattle.filterlang.specs.declared.token.TypeWord.{TypeWord}
pub use Rattle.filterlang.specs.declared.token.TypeWord.TheVariants as type_word
pub use Rattle.filter_tree.specs.declared.tree.Direction.{Direction}
pub use Rattle.filter_tree.specs.declared.tree.Direction.TheVariants.{Dst, Src, SrcAndDst, SrcOrDst}
pub use Rattle.filter_tree.specs.declared.tree.Layer.{Layer}
pub use Rattle.filter_tree.specs.declared.tree.Layer.TheVariants as layers
pub use Rattle.filter_tree.specs.declared.tree.Network.{Network}
pub use Rattle.filter_tree.specs.declared.tree.Network.TheVariants as networks
pub use Rattle.filter_tree.specs.declared.tree.Plain.{Plain}
pub use Rattle.filter_tree.specs.declared.tree.Plain.TheVariants as plain
pub use Rattle.filter_tree.specs.declared.tree.Primitive.{Primitive}
pub use Rattle.filter_tree.specs.declared.tree.Primitive.TheVariants as primitives
pub use Rattle.filter_tree.specs.declared.tree.Size.{Size}
pub use Rattle.filter_tree.specs.declared.tree.Size.TheVariants.{One}
pub use Rattle.filter_tree.specs.declared.tree.Size.TheVariants as sizes
pub use Rattle.filter_tree.specs.declared.tree.Transport.{Transport}
pub use Rattle.filter_tree.specs.declared.tree.Transport.TheVariants as transports
pub use Rattle.filterlang.specs.declared.lexer.Cause.{Cause}
pub use Rattle.filterlang.specs.declared.lexer.Cause.TheVariants.{BadByte, BadNumber, BadWord}
pub use Rattle.filterlang.specs.declared.lexer.Front.{Front}
pub use Rattle.filterlang.specs.declared.lexer.Front.TheVariants as fronts
pub use Rattle.filterlang.specs.declared.lexer.TheConstants.{MAX_TEXT}
pub use Rattle.filterlang.specs.declared.lookahead.Beginning.{Beginning}
pub use Rattle.filterlang.specs.declared.lookahead.Beginning.TheVariants as beginnings
pub use Rattle.filterlang.specs.declared.lookahead.Opening.{Opening}
pub use Rattle.filterlang.specs.declared.lookahead.Opening.TheVariants as openings
pub use Rattle.filterlang.specs.declared.phrases.qualifiers.Identifier.{Identifier}
pub use Rattle.filterlang.specs.declared.phrases.qualifiers.Identifier.TheVariants as ids
pub use Rattle.filterlang.specs.declared.phrases.qualifiers.Phrase.{Phrase}
pub use Rattle.filterlang.specs.declared.phrases.qualifiers.Qualifiers.{Qualifiers}
pub use Rattle.filterlang.specs.declared.phrases.qualifiers.Qualifiers.TheVariants.{EtherHost, EtherProto, Host, IpProto, Net, Port}
pub use Rattle.filterlang.specs.declared.parser.Start.{Start}
pub use Rattle.filterlang.specs.declared.parser.Start.TheVariants as starts
