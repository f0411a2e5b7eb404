-- A line of LISTENERS has one way of being cut into its fields.
use Rattle.std.proofs.Common.{◌≡◌, ℕ, suc, zero, List, ◌∷◌, ◌++◌, All, refl, sym, ◌∙◌, subst}
use Rattle.std.proofs.lemmas.List.Elements.{All-same}
use Rattle.bpfvm.specs.Listing.{space}
use Rattle.line_text.proofs.Cuts.{NoSpace, not-lacking, cut-one}
use Rattle.cli_filter.specs.Plan.{AreLastFields}
use Rattle.cli_filter.proofs.Fields.{fields_once}
use Rattle.cli_run.specs.declared.plan.RunLine.{RunLine}
use Rattle.cli_run.specs.Listeners.{AreNumbers, IsRunLine}

-- this many words, each with a space after it, begin a text
abbrev pub HasWords : ℕ → List ℕ → Type 0
HasWords zero text = Unit {0}
HasWords (suc n) text = (word : List ℕ) × (rest : List ℕ) × (text ≡ word ++ space ∷ rest) × All NoSpace word × HasWords n rest

-- after the first of them come the others
pub others : (n : ℕ) (text word rest : List ℕ) → text ≡ word ++ space ∷ rest → All NoSpace word → HasWords (suc n) text → HasWords n rest
others n text word rest cut none has =
    let one = cut-one space has.0 has.1 word rest has.3 none (sym has.2 ∙ cut) in
    subst (HasWords n) one.1 has.4

-- a text without a space has none
pub no_words : (n : ℕ) (text : List ℕ) → All NoSpace text → HasWords (suc n) text → ⊥
no_words n text lacks has = not-lacking space has.0 has.1 (All-same NoSpace (has.0 ++ space ∷ has.1) text (sym has.2) lacks)

-- the words of a line's numbers
pub numbers_of : (line i f s c p r : List ℕ) → AreNumbers line i f s c p r → HasWords (suc (suc (suc (suc (suc zero))))) line
numbers_of line i f s c p r a =
    (i, _, a.cut, a.one_interface, (f, _, refl, a.one_flush, (s, _, refl, a.one_snap, (c, _, refl, a.one_capacity, (p, r, refl, a.one_spares, tt)))))

-- a line without fields
abbrev pub HasNoFields : List ℕ → Type 0
HasNoFields line = (interface flush_every snap capacity spares rest : List ℕ) → AreNumbers line interface flush_every snap capacity spares rest → ⊥

-- a line has none where it has not the words of five numbers
pub no_fields : (line : List ℕ) → (HasWords (suc (suc (suc (suc (suc zero))))) line → ⊥) → HasNoFields line
no_fields line lacks i f s c p r are = lacks (numbers_of line i f s c p r are)

-- a line is cut in one way
pub record AreSame (i f s c p r i' f' s' c' p' r' : List ℕ) : Type 0 where
  pub interface : i ≡ i'
  pub flush_every : f ≡ f'
  pub snap : s ≡ s'
  pub capacity : c ≡ c'
  pub spares : p ≡ p'
  pub rest : r ≡ r'

pub fields_one : (line i f s c p r i' f' s' c' p' r' : List ℕ) → AreNumbers line i f s c p r → AreNumbers line i' f' s' c' p' r' → AreSame i f s c p r i' f' s' c' p' r'
fields_one line i f s c p r i' f' s' c' p' r' a b =
    let one = cut-one space i _ i' _ a.one_interface b.one_interface (sym a.cut ∙ b.cut) in
    let two = cut-one space f _ f' _ a.one_flush b.one_flush one.1 in
    let three = cut-one space s _ s' _ a.one_snap b.one_snap two.1 in
    let four = cut-one space c _ c' _ a.one_capacity b.one_capacity three.1 in
    let five = cut-one space p r p' r' a.one_spares b.one_spares four.1 in
    record { interface = one.0; flush_every = two.0; snap = three.0; capacity = four.0; spares = five.0; rest = five.1 }

-- a line names one OUT
pub output_once : (interfaces : ℕ) (line i f s c p r output expression : List ℕ) → AreNumbers line i f s c p r → AreLastFields r output expression → (other : RunLine) → IsRunLine interfaces line other
    → other.output.now ≡ output
output_once interfaces line i f s c p r output expression numbers last other is =
    let same = fields_one line _ _ _ _ _ _ _ _ _ _ _ _ is.numbers numbers in
    (fields_once r other.output.now other.expression.now output expression
    (subst (λ (t : List ℕ). AreLastFields t other.output.now other.expression.now) same.rest is.last) last).0

pub output_one : (interfaces : ℕ) (line : List ℕ) (x y : RunLine) → IsRunLine interfaces line x → IsRunLine interfaces line y → x.output.now ≡ y.output.now
output_one interfaces line x y is other = output_once interfaces line _ _ _ _ _ _ y.output.now y.expression.now other.numbers other.last x is
