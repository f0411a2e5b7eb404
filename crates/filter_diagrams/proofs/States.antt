-- States: their words as tables grow, and what is put into them or left out.
use Rattle.std.proofs.Common.{◌≡◌, ℕ, ◌<◌, ◌≢◌, inl, inr, Bool, true, false, List, [], ◌∷◌, ◌&&◌, length, set, refl, sym, ap, ◌∙◌, subst, get_or-set_other, get_or-set_same}
use Rattle.std.specs.Prelude.{◌==◌, nat_eq, Option, Some, None, IfSome, slice_index, slice_index_or}
use Rattle.std.specs.Cmp.Lexicographic.{pointwise}
use Rattle.std.specs.Option.{option_eq}
use Rattle.std.proofs.lemmas.Bool.{eqb-true, eqb-false}
use Rattle.std.proofs.lemmas.List.{length-set, get_or-replicate}
use Rattle.bpfvm.specs.Machine.{Registers, initial, with_value, with_cell}
use Rattle.filter_meaning.specs.Meaning.{Packet}
use Rattle.filter_bdd.specs.declared.table.Node.{Node}
use Rattle.filter_bdd.specs.Diagrams.{Grew}
use Rattle.filter_words.specs.declared.word.Word.{Word}
use Rattle.filter_words.specs.Words.{IsWord, value}
use Rattle.filter_words.proofs.Nodes.{word_grown, value-grown}
use Rattle.filter_symbols.specs.Packets.{bit_of}
use Rattle.filter_diagrams.specs.declared.actions.Register.{Register}
use Rattle.filter_diagrams.specs.declared.actions.Register.TheVariants.{Accumulator, Index}
use Rattle.filter_diagrams.specs.declared.state.State.{State}
use Rattle.filter_diagrams.specs.declared.spots.Spot.{Spot}
use Rattle.filter_diagrams.specs.Actions.{register_of}
use Rattle.filter_diagrams.specs.States.{cell, AreWords, IsNumber, IsStateOf, HasWord, HasCell, IsKept, IsPart, IsInitial}

pub spots_same : (x y : Spot) → x.place ≡ y.place → x.state ≡ y.state → x ≡ y
spots_same x y e f = ap (λ k. record { place = k; state = x.state }) e ∙ ap (λ k. record { place = y.place; state = k }) f

-- lists whose elements are the same
pub lists-same : {X : Type 0} (eq : X → X → Bool) (xs ys : List X) → pointwise eq xs ys ≡ true → ((x y : X) → eq x y ≡ true → x ≡ y) → xs ≡ ys
lists-same eq [] [] h same = refl
lists-same eq [] (y ∷ ys) h same = absurd cc
lists-same eq (x ∷ xs) [] h same = absurd cc
lists-same eq (x ∷ xs) (y ∷ ys) h same =
    ap (λ z. z ∷ xs) (same x y (first (eq x y) (pointwise eq xs ys) h)) ∙ ap (λ l. y ∷ l) (lists-same eq xs ys (second (eq x y) (pointwise eq xs ys) h) same)
  where
    first : (s t : Bool) → (s && t) ≡ true → s ≡ true
    first true t h = refl
    first false t h = h

    second : (s t : Bool) → (s && t) ≡ true → t ≡ true
    second true t h = h
    second false t h = absurd cc

-- ---- Growth

some-grown : (a b : List Node) (w : Option Word) → Grew a b → IfSome w (IsWord a) → IfSome w (IsWord b)
some-grown a b None g h = tt
some-grown a b (Some w) g h = word_grown a b w g h

pub words_grown : (a b : List Node) (s : State) → Grew a b → AreWords a s → AreWords b s
words_grown a b s g h = record {
  accumulator = some-grown a b s.accumulator g h.accumulator;
  index = some-grown a b s.index g h.index;
  memory = λ k less. some-grown a b (cell s k) g (h.memory k less);
}

number-back : (a b : List Node) (p : Packet) (w : Option Word) (n : ℕ) → Grew a b → IfSome w (IsWord a) → IsNumber b p w n → IsNumber a p w n
number-back a b p None n g h is = tt
number-back a b p (Some w) n g h is = sym (value-grown a b w g h (bit_of p)) ∙ is

number-on : (a b : List Node) (p : Packet) (w : Option Word) (n : ℕ) → Grew a b → IfSome w (IsWord a) → IsNumber a p w n → IsNumber b p w n
number-on a b p None n g h is = tt
number-on a b p (Some w) n g h is = value-grown a b w g h (bit_of p) ∙ is

pub state-back : (a b : List Node) (s : State) (p : Packet) (r : Registers) → Grew a b → AreWords a s → IsStateOf b s p r → IsStateOf a s p r
state-back a b s p r g h is = record {
  cells = is.cells;
  accumulator = number-back a b p s.accumulator r.accumulator g h.accumulator is.accumulator;
  index = number-back a b p s.index r.index g h.index is.index;
  memory = λ k less. number-back a b p (cell s k) (slice_index r.memory k) g (h.memory k less) (is.memory k less);
}

pub state-on : (a b : List Node) (s : State) (p : Packet) (r : Registers) → Grew a b → AreWords a s → IsStateOf a s p r → IsStateOf b s p r
state-on a b s p r g h is = record {
  cells = is.cells;
  accumulator = number-on a b p s.accumulator r.accumulator g h.accumulator is.accumulator;
  index = number-on a b p s.index r.index g h.index is.index;
  memory = λ k less. number-on a b p (cell s k) (slice_index r.memory k) g (h.memory k less) (is.memory k less);
}

-- ---- Parts

kept-word : (nodes : List Node) (old new : Option Word) → IsKept old new → IfSome old (IsWord nodes) → IfSome new (IsWord nodes)
kept-word nodes old new (inl same) h = subst (λ w. IfSome w (IsWord nodes)) (sym same) h
kept-word nodes old new (inr none) h = subst (λ w. IfSome w (IsWord nodes)) (sym none) tt

kept-number : (nodes : List Node) (p : Packet) (old new : Option Word) (n : ℕ) → IsKept old new → IsNumber nodes p old n → IsNumber nodes p new n
kept-number nodes p old new n (inl same) h = subst (λ w. IsNumber nodes p w n) (sym same) h
kept-number nodes p old new n (inr none) h = subst (λ w. IsNumber nodes p w n) (sym none) tt

pub part-words : (nodes : List Node) (s t : State) → IsPart s t → AreWords nodes s → AreWords nodes t
part-words nodes s t is h = record {
  accumulator = kept-word nodes s.accumulator t.accumulator is.accumulator h.accumulator;
  index = kept-word nodes s.index t.index is.index h.index;
  memory = λ k less. kept-word nodes (cell s k) (cell t k) (is.memory k less) (h.memory k less);
}

pub part-state : (nodes : List Node) (s t : State) (p : Packet) (r : Registers) → IsPart s t → IsStateOf nodes s p r → IsStateOf nodes t p r
part-state nodes s t p r is h = record {
  cells = h.cells;
  accumulator = kept-number nodes p s.accumulator t.accumulator r.accumulator is.accumulator h.accumulator;
  index = kept-number nodes p s.index t.index r.index is.index h.index;
  memory = λ k less. kept-number nodes p (cell s k) (cell t k) (slice_index r.memory k) (is.memory k less) (h.memory k less);
}

-- one more cell of a list
pub kept-more : (old memory : List (Option Word)) (i k : ℕ) (w : Option Word) → i < length memory → IsKept (slice_index_or old i None) w
    → IsKept (slice_index_or old k None) (slice_index_or memory k None) → IsKept (slice_index_or old k None) (slice_index_or (set memory i w) k None)
kept-more old memory i k w inside here other = by (k == i) refl
  where
    by : (b : Bool) → (k == i) ≡ b → IsKept (slice_index_or old k None) (slice_index_or (set memory i w) k None)
    by true is =
        let same : k ≡ i = eqb-true k i is in
        subst (λ n. IsKept (slice_index_or old n None) (slice_index_or (set memory i w) n None)) (sym same)
        (subst (IsKept (slice_index_or old i None)) (sym (get_or-set_same memory i w None inside)) here)
    by false is =
        let apart : k ≢ i = eqb-false k i is in
        subst (IsKept (slice_index_or old k None)) (sym (get_or-set_other memory i k w None apart)) other

-- ---- Words in registers and cells

some-as : (nodes : List Node) (x : Option Word) (w : Word) → x ≡ Some w → IsWord nodes w → IfSome x (IsWord nodes)
some-as nodes x w is h = subst (λ y. IfSome y (IsWord nodes)) (sym is) h

same-as : (nodes : List Node) (x y : Option Word) → x ≡ y → IfSome y (IsWord nodes) → IfSome x (IsWord nodes)
same-as nodes x y is h = subst (λ z. IfSome z (IsWord nodes)) (sym is) h

number-as : (nodes : List Node) (p : Packet) (x y : Option Word) (n : ℕ) → x ≡ y → IsNumber nodes p y n → IsNumber nodes p x n
number-as nodes p x y n is h = subst (λ z. IsNumber nodes p z n) (sym is) h

pub with-words : (nodes : List Node) (s t : State) (to : Register) (w : Word) → HasWord s to w t → AreWords nodes s → IsWord nodes w → AreWords nodes t
with-words nodes s t Accumulator w is h word = record {
  accumulator = some-as nodes t.accumulator w is.0 word;
  index = same-as nodes t.index s.index is.1 h.index;
  memory = λ k less. same-as nodes (cell t k) (cell s k) (ap (λ m. slice_index_or m k None) is.2) (h.memory k less);
}
with-words nodes s t Index w is h word = record {
  accumulator = same-as nodes t.accumulator s.accumulator is.0 h.accumulator;
  index = some-as nodes t.index w is.1 word;
  memory = λ k less. same-as nodes (cell t k) (cell s k) (ap (λ m. slice_index_or m k None) is.2) (h.memory k less);
}

pub with-state : (nodes : List Node) (s t : State) (to : Register) (w : Word) (p : Packet) (r : Registers) (n : ℕ) → HasWord s to w t → IsStateOf nodes s p r
    → value nodes (bit_of p) w ≡ n → IsStateOf nodes t p (with_value (register_of to) n r)
with-state nodes s t Accumulator w p r n is h word = record {
  cells = h.cells;
  accumulator = number-as nodes p t.accumulator (Some w) n is.0 word;
  index = number-as nodes p t.index s.index r.index is.1 h.index;
  memory = λ k less. number-as nodes p (cell t k) (cell s k) (slice_index r.memory k) (ap (λ m. slice_index_or m k None) is.2) (h.memory k less);
}
with-state nodes s t Index w p r n is h word = record {
  cells = h.cells;
  accumulator = number-as nodes p t.accumulator s.accumulator r.accumulator is.0 h.accumulator;
  index = number-as nodes p t.index (Some w) n is.1 word;
  memory = λ k less. number-as nodes p (cell t k) (cell s k) (slice_index r.memory k) (ap (λ m. slice_index_or m k None) is.2) (h.memory k less);
}

-- a cell is the one that was stored into, or another one
by-place : (P : ℕ → Type 0) (place k : ℕ) → P place → ((k ≡ place → ⊥) → P k) → P k
by-place P place k here other = by (k == place) refl
  where
    by : (b : Bool) → (k == place) ≡ b → P k
    by true is = subst P (sym (eqb-true k place is)) here
    by false is = other (eqb-false k place is)

pub cell-words : (nodes : List Node) (s t : State) (place : ℕ) (w : Word) → HasCell s place w t → AreWords nodes s → IsWord nodes w → AreWords nodes t
cell-words nodes s t place w is h word = record {
  accumulator = same-as nodes t.accumulator s.accumulator is.accumulator h.accumulator;
  index = same-as nodes t.index s.index is.index h.index;
  memory = λ k less. by-place (λ k'. IfSome (cell t k') (IsWord nodes)) place k (some-as nodes (cell t place) w is.here word)
      (λ apart. same-as nodes (cell t k) (cell s k) (is.others k apart) (h.memory k less));
}

pub cell-state : (nodes : List Node) (s t : State) (place : ℕ) (w : Word) (p : Packet) (r : Registers) (n : ℕ) → HasCell s place w t → IsStateOf nodes s p r
    → value nodes (bit_of p) w ≡ n → IsStateOf nodes t p (with_cell place n r)
cell-state nodes s t place w p r n is h word = record {
  cells = length-set r.memory place n ∙ h.cells;
  accumulator = number-as nodes p t.accumulator s.accumulator r.accumulator is.accumulator h.accumulator;
  index = number-as nodes p t.index s.index r.index is.index h.index;
  memory = λ k less. by-place (λ k'. IsNumber nodes p (cell t k') (slice_index (set r.memory place n) k')) place k
      (number-as nodes p (cell t place) (Some w) (slice_index (set r.memory place n) place) is.here
      (word ∙ sym (get_or-set_same r.memory place n 0 (subst (λ c. place < c) (sym h.cells) is.inside))))
      (λ apart. subst (IsNumber nodes p (cell t k)) (sym (get_or-set_other r.memory place k n 0 apart))
      (number-as nodes p (cell t k) (cell s k) (slice_index r.memory k) (is.others k apart) (h.memory k less)));
}

-- ---- The beginning

pub initial-state : (nodes : List Node) (s : State) (w : Word) → s.accumulator ≡ Some w → s.index ≡ Some w → ((k : ℕ) → k < 16 → cell s k ≡ Some w)
    → IsWord nodes w → ((v : ℕ → Bool) → value nodes v w ≡ 0) → IsInitial nodes s
initial-state nodes s w acc idx mem word is = record {
  words = record {
    accumulator = some-as nodes s.accumulator w acc word;
    index = some-as nodes s.index w idx word;
    memory = λ k less. some-as nodes (cell s k) w (mem k less) word;
  };
  is = λ p. record {
    cells = refl;
    accumulator = number-as nodes p s.accumulator (Some w) 0 acc (is (bit_of p));
    index = number-as nodes p s.index (Some w) 0 idx (is (bit_of p));
    memory = λ k less. number-as nodes p (cell s k) (Some w) (slice_index initial.memory k) (mem k less) (is (bit_of p) ∙ sym (get_or-replicate 16 k 0 0 less));
  };
}

pub initial_grown : (a b : List Node) (s : State) → Grew a b → IsInitial a s → IsInitial b s
initial_grown a b s g h = record { words = words_grown a b s g h.words; is = λ p. state-on a b s p initial g h.words (h.is p) }

pub cell-found : (s : State) (place : ℕ) (x : Option Word) → place < 16 → cell s place ≡ x → IfSome x (λ w. (place < 16) × (cell s place ≡ Some w))
cell-found s place None inside is = tt
cell-found s place (Some w) inside is = (inside, is)

-- ---- States that are the same

both-true : (a b : Bool) → (a && b) ≡ true → (a ≡ true) × (b ≡ true)
both-true true b h = (refl, h)
both-true false b h = absurd cc

option-same : {X : Type 0} (eq : X → X → Bool) (x y : Option X) → ((a b : X) → eq a b ≡ true → a ≡ b) → option_eq eq x y ≡ true → x ≡ y
option-same eq None None same h = refl
option-same eq None (Some y) same h = absurd cc
option-same eq (Some x) None same h = absurd cc
option-same eq (Some x) (Some y) same h = ap Some (same x y h)

pub word-same : (x y : Word) → pointwise nat_eq x.bits y.bits ≡ true → x ≡ y
word-same x y h = ap (λ b. record { bits = b }) (lists-same nat_eq x.bits y.bits h (λ m n e. eqb-true m n e))

pub state-same : (eq : Word → Word → Bool) (x y : State) → ((a b : Word) → eq a b ≡ true → a ≡ b)
    → (option_eq eq x.accumulator y.accumulator && (option_eq eq x.index y.index && pointwise (option_eq eq) x.memory y.memory)) ≡ true → x ≡ y
state-same eq x y same h =
    let first = both-true (option_eq eq x.accumulator y.accumulator) (option_eq eq x.index y.index && pointwise (option_eq eq) x.memory y.memory) h in
    let rest = both-true (option_eq eq x.index y.index) (pointwise (option_eq eq) x.memory y.memory) first.1 in
    ap (λ w. record { accumulator = w; index = x.index; memory = x.memory }) (option-same eq x.accumulator y.accumulator same first.0)
    ∙ ap (λ w. record { accumulator = y.accumulator; index = w; memory = x.memory }) (option-same eq x.index y.index same rest.0)
    ∙ ap (λ m. record { accumulator = y.accumulator; index = y.index; memory = m })
    (lists-same (option_eq eq) x.memory y.memory rest.1 (λ a b e. option-same eq a b same e))
