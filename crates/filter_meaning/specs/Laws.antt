-- What holds of the table of looks, whatever the code does.
use Rattle.std.specs.Prelude.{◌≡◌, ⊤, ℕ, ◌+◌, ◌<◌, ◌≤◌, ◌⊎◌, Bool, List, [], ◌∷◌, ◌++◌, length, max, Some, Result, Ok, Err}
use Rattle.std.specs.List.{AllByRecursion}
use Rattle.bpfvm.specs.Machine.{number_at}
use Rattle.filter_tree.specs.Trees.{Amount}
use Rattle.filter_tree.specs.Trees as trees
use Rattle.filter_tree.specs.declared.tree.Comparison.{Comparison}
use Rattle.filter_tree.specs.declared.tree.Primitive.{Primitive}
use Rattle.filter_tree.specs.declared.tree.Operator.TheVariants.{Divide, Modulo}
use Rattle.filter_meaning.specs.declared.cause.AbortCause.{AbortCause}
use Rattle.filter_meaning.specs.declared.cause.AbortCause.TheVariants.{NotCaptured, ZeroDivisor}
use Rattle.filter_meaning.specs.declared.frame.Look.{Look}
use Rattle.filter_meaning.specs.declared.frame.Look.TheVariants.{Bytes, Length}
use Rattle.filter_meaning.specs.Meaning.{Packet, value, primitive_test, relation_test}
use Rattle.filter_meaning.specs.Looks.{primitive_asked, relation_asked, verdict_of}

-- the table answers as the meaning does
abbrev pub PrimitivesAnswerAsMeant : Type 0
PrimitivesAnswerAsMeant = (q : Primitive) (p : Packet) → verdict_of (primitive_asked q p).answer ≡ primitive_test q p

abbrev pub RelationsAnswerAsMeant : Type 0
RelationsAnswerAsMeant =
    (c : Comparison) (v w : Amount) (p : Packet) → verdict_of (relation_asked c v w p).answer ≡ relation_test c v w p

-- two packets agree on a look: it finds the same number in both, or in neither one
abbrev pub IsSameAt : Packet → Packet → Look → Type 0
IsSameAt p r (Bytes offset size) = number_at p.captured offset size ≡ number_at r.captured offset size
IsSameAt p r Length = p.wire ≡ r.wire

abbrev pub AgreeOn : Packet → Packet → List Look → Type 0
AgreeOn p r looks = AllByRecursion (IsSameAt p r) looks

-- the answer, and what is looked at, depend on nothing but what is looked at, and on how many bytes were captured
abbrev pub PrimitivesAnswerByLooks : Type 0
PrimitivesAnswerByLooks =
    (q : Primitive) (p r : Packet) → length p.captured ≡ length r.captured → AgreeOn p r (primitive_asked q p).looks → primitive_asked q r ≡ primitive_asked q p

abbrev pub RelationsAnswerByLooks : Type 0
RelationsAnswerByLooks =
    (c : Comparison) (v w : Amount) (p r : Packet) → length p.captured ≡ length r.captured → AgreeOn p r (relation_asked c v w p).looks
    → relation_asked c v w r ≡ relation_asked c v w p

-- the bytes of a look were captured
abbrev pub IsThere : Packet → Look → Type 0
IsThere p (Bytes offset size) = offset + size ≤ length p.captured
IsThere p Length = ⊤

abbrev pub AreThere : Packet → List Look → Type 0
AreThere p looks = AllByRecursion (IsThere p) looks

-- The last look is the first whose bytes were not all captured, and this byte is the first of them that was not.
pub record EndsMissing (p : Packet) (looks : List Look) (place : ℕ) : Type 0 where
  pub front : List Look
  pub offset : ℕ
  pub size : ℕ
  pub order : looks ≡ front ++ Bytes offset size ∷ []
  pub there : AreThere p front
  pub past : length p.captured < offset + size
  pub first : place ≡ max offset (length p.captured)

-- where a test that looked at these ends
abbrev pub Ends : {A : Type 0} → Packet → Result A AbortCause → List Look → Type 0
Ends p (Ok answer) looks = AreThere p looks
Ends p (Err (NotCaptured place)) looks = EndsMissing p looks place
Ends p (Err ZeroDivisor) looks = AreThere p looks

-- a primitive aborts exactly where it meets a look whose bytes were not all captured
abbrev pub PrimitivesEnd : Type 0
PrimitivesEnd =
    (q : Primitive) (p : Packet) → Ends p (primitive_asked q p).answer (primitive_asked q p).looks × ((primitive_asked q p).answer ≡ Err ZeroDivisor → ⊥)

-- some `/` or `%` in a value has a divisor that is 0
abbrev pub DividesByZero : Packet → Amount → Type 0
DividesByZero p (trees.number n) = ⊥
DividesByZero p trees.wire_length = ⊥
DividesByZero p (trees.minus v) = DividesByZero p v
DividesByZero p (trees.binary o v w) = (DividesByZero p v ⊎ DividesByZero p w) ⊎ (((o ≡ Divide) ⊎ (o ≡ Modulo)) × (value w p ≡ Some 0))
DividesByZero p (trees.accessor layer v size) = DividesByZero p v

-- and so does a relation, or where it divides by 0
abbrev pub RelationsEnd : Type 0
RelationsEnd =
    (c : Comparison) (v w : Amount) (p : Packet) → Ends p (relation_asked c v w p).answer (relation_asked c v w p).looks
    × ((relation_asked c v w p).answer ≡ Err ZeroDivisor → DividesByZero p v ⊎ DividesByZero p w)
