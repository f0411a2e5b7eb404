-- Phrases and identifiers, from the front of a list of tokens.
use Rattle.std.specs.Prelude.{ℕ, List, ◌∷◌, Option, Some, None, map}
use Rattle.filterlang.specs.Types.{Kind, Token, Protocol, TypeWord, Side, Parts, Joint, And, Or, Divide, Direction, Src, Dst, SrcOrDst, SrcAndDst, Phrase, Identifier}
use Rattle.filterlang.specs.Types.kind
use Rattle.filterlang.specs.Types.side
use Rattle.filterlang.specs.Types.ids

-- what the tokens are, without where they stand
abbrev pub kinds : List Token → List Kind
kinds tokens = map (λ t. t.kind) tokens

abbrev pub protocol_at : List Kind → Option Protocol × List Kind
protocol_at (kind.Protocol protocol ∷ rest) = (Some protocol, rest)
protocol_at rest = (None, rest)

abbrev pub type_at : List Kind → Option TypeWord × List Kind
type_at (kind.Type word ∷ rest) = (Some word, rest)
type_at rest = (None, rest)

-- src or dst, in either order, and the same with and
abbrev pub joined : Side → Joint → Side → Option Direction
joined side.Src Or side.Dst = Some SrcOrDst
joined side.Dst Or side.Src = Some SrcOrDst
joined side.Src And side.Dst = Some SrcAndDst
joined side.Dst And side.Src = Some SrcAndDst
joined first joint second = None

abbrev pub one_side : Side → Direction
one_side side.Src = Src
one_side side.Dst = Dst

-- three words that are one direction, or only the first
abbrev pub longest : Option Direction → Side → List Kind → List Kind → Option Direction × List Kind
longest (Some direction) first rest later = (Some direction, later)
longest None first rest later = (Some (one_side first), rest)

abbrev pub direction_at : List Kind → Option Direction × List Kind
direction_at (kind.Side first ∷ kind.Joint joint ∷ kind.Side second ∷ rest) =
    longest (joined first joint second) first (kind.Joint joint ∷ kind.Side second ∷ rest) rest
direction_at (kind.Side first ∷ rest) = (Some (one_side first), rest)
direction_at rest = (None, rest)

-- a phrase: a protocol, a direction and a type, each of which may be missing
abbrev pub phrase_at : List Kind → Phrase × List Kind
phrase_at tokens =
    let protocol = protocol_at tokens in
    let direction = direction_at protocol.1 in
    let word = type_at direction.1 in
    (record { protocol = protocol.0; direction = direction.0; type_word = word.0 }, word.1)

-- a dotted address goes on with `/` and a number, with `mask` and another one, or not at all
abbrev pub dotted_at : ℕ → Parts → List Kind → Option (Identifier × List Kind)
dotted_at address parts (kind.Operator Divide ∷ kind.Number bits ∷ rest) = Some (ids.Prefix address bits, rest)
dotted_at address parts (kind.Operator Divide ∷ rest) = None
dotted_at address parts (kind.Mask ∷ kind.Dotted mask mask_parts ∷ rest) = Some (ids.Masked address mask mask_parts, rest)
dotted_at address parts (kind.Mask ∷ rest) = None
dotted_at address parts rest = Some (ids.Dotted address parts, rest)

abbrev pub identifier_at : List Kind → Option (Identifier × List Kind)
identifier_at (kind.Number n ∷ rest) = Some (ids.Number n, rest)
identifier_at (kind.Ethernet address ∷ rest) = Some (ids.Ethernet address, rest)
identifier_at (kind.Name name ∷ rest) = Some (ids.Name name, rest)
identifier_at (kind.Dotted address parts ∷ rest) = dotted_at address parts rest
identifier_at rest = None
