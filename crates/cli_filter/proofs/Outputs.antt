-- The OUTs of the lines that were read.
use denote.Ref.{Bor}
use Rattle.std.proofs.Common.{◌≡◌, ◌≢◌, ℕ, ◌+◌, ◌<◌, ◌≤◌, Bool, true, false, cond, not, ◌||◌, List, [], ◌∷◌, ◌++◌, length, take, get_or, Any, refl, sym, ap, ◌∙◌, arith, length-take, length-append}
use Rattle.std.specs.List.{list_any}
use Rattle.std.specs.Str.{bytes_eq}
use Rattle.std.specs.BTreeSet.{BTreeSet, contains, Updates}
use Rattle.std.specs.BTreeMap.{is_at}
use Rattle.std.specs.Cmp.Lexicographic.{slice_cmp}
use Rattle.std.specs.Ordering.{nat_cmp}
use Rattle.std.proofs.lemmas.List.{take_all, take-append-le}
use Rattle.std.proofs.lemmas.List.Folds.{list_any-append, list_any_at, Any-from_list_any}
use Rattle.std.proofs.lemmas.List.Quantifiers.{all_pairs_push}
use Rattle.std.proofs.lemmas.Slice.Eq.{bytes_eq-Decides}
use Rattle.std.proofs.lemmas.Map.Text.{is_eq-slice_cmp}
use Rattle.bpfvm.specs.Listing.{further_lines}
use Rattle.line_text.proofs.Reading.{IsRead, IsRead-none, IsRead-more, IsRead-all, length-Say}
use Rattle.cli_filter.specs.Plan.{HaveOwnOutputs, AreLines, IsFirstBadLine}

-- whether one of these has this OUT
abbrev pub has_output : {X : Type 0} → (X → List ℕ) → List ℕ → List X → Bool
has_output output name asked = list_any (λ line. bytes_eq (output line) name) asked

-- the set has the OUTs of these, and no others
abbrev pub HasOutputs : {X : Type 0} → (X → List ℕ) → BTreeSet (Bor (List ℕ)) → List X → Type 0
HasOutputs output outputs asked = (q : Bor (List ℕ)) → contains (λ x y. slice_cmp nat_cmp x.now y.now) outputs q ≡ has_output output q.now asked

turned : (b c : Bool) → cond b true c ≡ (c || (b || false))
turned true true = refl
turned true false = refl
turned false true = refl
turned false false = refl

-- So many lines were read of all, of which these are left; these were kept of them, and the set has the OUTs of all.
pub record IsReadSoFar {X : Type 0} (Is : List ℕ → X → Type 0) (output : X → List ℕ) (shared : List ℕ → Bool) (most : ℕ) (all left : List (List ℕ)) (number : ℕ) (kept : List X) (outputs : BTreeSet (Bor (List ℕ))) : Type 0 where
  pub said : List X
  pub read : IsRead Is all left said
  pub own : HaveOwnOutputs output shared said
  pub has : HasOutputs output outputs said
  pub first : kept ≡ take most said
  pub count : number ≡ length said

pub nothing_read : {X : Type 0} (Is : List ℕ → X → Type 0) (output : X → List ℕ) (shared : List ℕ → Bool) (most : ℕ) (all : List (List ℕ)) (outputs : BTreeSet (Bor (List ℕ))) → outputs.keys ≡ []
    → IsReadSoFar Is output shared most all all 0 [] outputs
nothing_read Is output shared most all outputs none = record {
  said = [];
  read = IsRead-none Is all;
  own = λ i j d before inside other. absurd (omega arith);
  has = λ q. ap (list_any (λ k. is_at (λ (x : Bor (List ℕ)). slice_cmp nat_cmp q.now x.now) k)) none;
  first = sym (take_all most [] (omega arith));
  count = refl;
}

-- one more
module _ (X : Type 0) (output : X → List ℕ) (shared : List ℕ → Bool) (old : BTreeSet (Bor (List ℕ))) (asked : List X) (x : X) (name : Bor (List ℕ)) (its : name.now ≡ output x) (has : HasOutputs output old asked) where
  HasOutputs-more : (new : BTreeSet (Bor (List ℕ))) → Updates (λ x y. slice_cmp nat_cmp x.now y.now) old new name true → HasOutputs output new (asked ++ x ∷ [])
  HasOutputs-more new updates q =
      let more : has_output output q.now (asked ++ x ∷ []) ≡ (has_output output q.now asked || (bytes_eq (output x) q.now || false)) = list_any-append (λ line. bytes_eq (output line) q.now) asked (x ∷ []) in
      updates.0 q
      ∙ ap (λ b. cond b true (contains (λ x y. slice_cmp nat_cmp x.now y.now) old q)) (is_eq-slice_cmp name.now q.now)
      ∙ ap (λ c. cond (bytes_eq name.now q.now) true c) (has q)
      ∙ turned (bytes_eq name.now q.now) (has_output output q.now asked)
      ∙ ap (λ (t : List ℕ). has_output output q.now asked || (bytes_eq t q.now || false)) its
      ∙ sym more

  -- an OUT that the set has not is none of theirs
  own-more : HaveOwnOutputs output shared asked → (shared (output x) ≡ false → contains (λ x y. slice_cmp nat_cmp x.now y.now) old name ≡ false) → HaveOwnOutputs output shared (asked ++ x ∷ [])
  own-more own new =
      all_pairs_push (λ earlier later. shared (output later) ≡ false → output earlier ≢ output later) asked x own
      (λ k d inside alone same.
      let there = list_any_at (λ line. bytes_eq (output line) name.now) asked k d inside ((bytes_eq-Decides (output (get_or asked k d)) name.now).1 (same ∙ sym its)) in
      let wrong : true ≡ false = sym there ∙ sym (has name) ∙ new alone in
      absurd cc)

-- and one that it has is one of theirs
named-earlier : {X : Type 0} (output : X → List ℕ) (outputs : BTreeSet (Bor (List ℕ))) (asked : List X) (name : Bor (List ℕ)) → HasOutputs output outputs asked
    → contains (λ x y. slice_cmp nat_cmp x.now y.now) outputs name ≡ true → Any (λ earlier. output earlier ≡ name.now) asked
named-earlier output outputs asked name has old =
    let found = Any-from_list_any (λ line. bytes_eq (output line) name.now) asked (sym (has name) ∙ old) in
    (found.0, found.1, found.2, found.3, (bytes_eq-Decides (output found.1) name.now).0 found.4)

-- how the next line is kept
pub kept-few : {X : Type 0} (most : ℕ) (kept said : List X) (x : X) → kept ≡ take most said → length kept < most → kept ++ x ∷ [] ≡ take most (said ++ x ∷ [])
kept-few {X} most kept said x first few =
    let short : length said < most = omega (arith, ap length first, length-take most said) in
    first' short ∙ sym (take_all most (said ++ x ∷ []) (omega (arith, length-append said (x ∷ []))))
  where
    first' : length said < most → kept ++ x ∷ [] ≡ said ++ x ∷ []
    first' short = ap (λ (t : List X). t ++ x ∷ []) (first ∙ take_all most said (omega arith))

pub kept-many : {X : Type 0} (most : ℕ) (kept said : List X) (x : X) → kept ≡ take most said → most ≤ length kept → kept ≡ take most (said ++ x ∷ [])
kept-many most kept said x first many =
    let long : most ≤ length said = omega (arith, ap length first, length-take most said) in
    first ∙ sym (take-append-le most said (x ∷ []) long)

module _ (X : Type 0) (Is : List ℕ → X → Type 0) (output : X → List ℕ) (shared : List ℕ → Bool) (most : ℕ) (all left left' : List (List ℕ)) (number : ℕ) (kept : List X) (old new : BTreeSet (Bor (List ℕ))) (line : List ℕ) (x : X) (name : Bor (List ℕ))
    (cut : left ≡ line ∷ left') (read : IsReadSoFar Is output shared most all left number kept old) (is : Is line x) (its : name.now ≡ output x)
    (fresh : shared (output x) ≡ false → contains (λ x y. slice_cmp nat_cmp x.now y.now) old name ≡ false) (updates : Updates (λ x y. slice_cmp nat_cmp x.now y.now) old new name true) where
  more-read : (kept' : List X) → kept' ≡ take most (read.said ++ x ∷ []) → IsReadSoFar Is output shared most all left' (number + 1) kept' new
  more-read kept' first = record {
    said = read.said ++ x ∷ [];
    read = IsRead-more Is all left left' read.said line x cut read.read is;
    own = own-more X output shared old read.said x name its read.has read.own fresh;
    has = HasOutputs-more X output shared old read.said x name its read.has new updates;
    first = first;
    count = omega (arith, read.count, length-append read.said (x ∷ []));
  }

  pub kept_read : length kept < most → IsReadSoFar Is output shared most all left' (number + 1) (kept ++ x ∷ []) new
  kept_read few = more-read (kept ++ x ∷ []) (kept-few most kept read.said x read.first few)

  pub passed_read : most ≤ length kept → IsReadSoFar Is output shared most all left' (number + 1) kept new
  passed_read many = more-read kept (kept-many most kept read.said x read.first many)

module _ (X : Type 0) (Is : List ℕ → X → Type 0) (output : X → List ℕ) (shared : List ℕ → Bool) (most : ℕ) (text : List ℕ) (left left' : List (List ℕ)) (number : ℕ) (kept : List X) (outputs : BTreeSet (Bor (List ℕ))) (line : List ℕ)
    (cut : left ≡ line ∷ left') (read : IsReadSoFar Is output shared most (further_lines text) left number kept outputs) where
  -- the next line is bad
  bad-read : ((x : X) → Is line x → (shared (output x) ≡ false) × Any (λ earlier. output earlier ≡ output x) read.said) → IsFirstBadLine Is output shared text (number + 1)
  bad-read bad = record {
    before = read.read.front;
    line = line;
    behind = left';
    lines = read.read.lines ∙ ap (λ (ls : List (List ℕ)). read.read.front ++ ls) cut;
    said = read.said;
    good = read.read.each;
    own = read.own;
    bad = bad;
    place = omega (arith, read.count, length-Say Is read.read.front read.said read.read.each);
  }

  -- it lacks the form
  pub formless_read : ((x : X) → Is line x → ⊥) → IsFirstBadLine Is output shared text (number + 1)
  formless_read none = bad-read (λ x is. absurd (none x is))

  -- or its OUT is an earlier line's
  pub named_read : (name : Bor (List ℕ)) (x : X) → name.now ≡ output x → ((y : X) → Is line y → output y ≡ output x) → shared (output x) ≡ false
      → contains (λ x y. slice_cmp nat_cmp x.now y.now) outputs name ≡ true → IsFirstBadLine Is output shared text (number + 1)
  named_read name x its one alone old =
      bad-read (λ y other.
      let found = named-earlier output outputs read.said name read.has old in
      (ap shared (one y other) ∙ alone, (found.0, found.1, found.2, found.3, found.4 ∙ its ∙ sym (one y other))))

-- all are read
pub all_read : {X : Type 0} (Is : List ℕ → X → Type 0) (output : X → List ℕ) (shared : List ℕ → Bool) (most : ℕ) (text rest : List ℕ) (number : ℕ) (kept : List X) (outputs : BTreeSet (Bor (List ℕ))) → rest ≡ []
    → IsReadSoFar Is output shared most (further_lines text) (further_lines rest) number kept outputs → AreLines Is output shared most text kept
all_read Is output shared most text rest number kept outputs none read =
    (read.said, IsRead-all Is text rest read.said none read.read, read.own, read.first)

-- ---- Whether an OUT may stand in a further line

pub refused_both : (there shared is_new may : Bool) → is_new ≡ not there → may ≡ (is_new || shared) → may ≡ false → (shared ≡ false) × (there ≡ true)
refused_both false shared is_new may new is bars = let wrong : true ≡ false = sym (is ∙ ap (λ b. b || shared) new) ∙ bars in absurd cc
refused_both true true is_new may new is bars = let wrong : true ≡ false = sym (is ∙ ap (λ b. b || true) new) ∙ bars in absurd cc
refused_both true false is_new may new is bars = (refl, refl)

pub fresh_alone : (there shared is_new may : Bool) → is_new ≡ not there → may ≡ (is_new || shared) → may ≡ true → shared ≡ false → there ≡ false
fresh_alone false shared is_new may new is lets alone = refl
fresh_alone true true is_new may new is lets alone = let wrong : true ≡ false = alone in absurd cc
fresh_alone true false is_new may new is lets alone = let wrong : true ≡ false = sym lets ∙ is ∙ ap (λ b. b || false) new in absurd cc
