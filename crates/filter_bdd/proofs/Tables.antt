-- Tables that grow.
use Rattle.std.proofs.Common.{◌≡◌, ℕ, inl, inr, ◌+◌, ◌<◌, ◌≤◌, Bool, true, false, cond, List, [], ◌∷◌, ◌++◌, length, refl, sym, ap, ◌∙◌, arith, append_assoc, length-append, subst}
use Rattle.std.proofs.lemmas.List.{get_or_at, get_or_append_left, append-nil, take-append-drop, drop_more, length-take-le}
use Rattle.std.specs.Prelude.{take, drop}
use Rattle.std.specs.Prelude.{slice_index_or, slice_get, Some}
use Rattle.std.proofs.lemmas.Bool.{cases_lt}
use Rattle.std.proofs.lemmas.Option.{get_or_from_slice_get, slice_get-get_or, slice_get_within}
use Rattle.filter_bdd.specs.declared.answer.Answer.{Answer}
use Rattle.filter_bdd.specs.declared.answer.Answer.TheVariants.{Never}
use Rattle.filter_bdd.specs.declared.table.Node.{Node}
use Rattle.filter_bdd.specs.declared.table.Node.TheVariants.{Leaf, Branch}
use Rattle.filter_bdd.specs.Diagrams.{answer_of, answers, answer, node_answer, IsBefore, IsTable, Gives, Grew}

-- the last node is answered by those before it
answers-push : (v : ℕ → Bool) (known : List Answer) (ns : List Node) (n : Node) → answers v known (ns ++ n ∷ []) ≡ answers v known ns ++ answer_of v (answers v known ns) n ∷ []
answers-push v known [] n = refl
answers-push v known (m ∷ ns) n = answers-push v (known ++ answer_of v known m ∷ []) ns n

length-answers : (v : ℕ → Bool) (known : List Answer) (ns : List Node) → length (answers v known ns) ≡ length known + length ns
length-answers v known [] = omega arith
length-answers v known (m ∷ ns) =
    let more = length-answers v (known ++ answer_of v known m ∷ []) ns in
    let one = length-append known (answer_of v known m ∷ []) in
    omega arith

-- what the node answers that was added
answer-new : (v : ℕ → Bool) (ns : List Node) (n : Node) → answer (ns ++ n ∷ []) v (length ns) ≡ answer_of v (answers v [] ns) n
answer-new v ns n =
    let long : length (answers v [] ns) ≡ length ns = omega (arith, length-answers v [] ns) in
    ap (λ l. slice_index_or l (length ns) Never) (answers-push v [] ns n)
    ∙ get_or_at (answers v [] ns) (answer_of v (answers v [] ns) n) [] Never (length ns) long

-- the others answer as before
answer-old : (v : ℕ → Bool) (ns : List Node) (n : Node) (i : ℕ) → i < length ns → answer (ns ++ n ∷ []) v i ≡ answer ns v i
answer-old v ns n i inside =
    let long = length-answers v [] ns in
    ap (λ l. slice_index_or l i Never) (answers-push v [] ns n)
    ∙ get_or_append_left (answers v [] ns) (answer_of v (answers v [] ns) n ∷ []) Never i (omega arith)

answer-grown : (v : ℕ → Bool) (old added : List Node) (i : ℕ) → i < length old → answer (old ++ added) v i ≡ answer old v i
answer-grown v old [] i inside = ap (λ l. answer l v i) (append-nil old)
answer-grown v old (n ∷ added) i inside =
    let long = length-append old (n ∷ []) in
    ap (λ l. answer l v i) (sym (append_assoc old (n ∷ []) added))
    ∙ answer-grown v (old ++ n ∷ []) added i (omega arith)
    ∙ answer-old v old n i inside

answer_of-grown : (v : ℕ → Bool) (p added : List Node) (n : Node) → IsBefore (length p) n → answer_of v (answers v [] p) n ≡ answer_of v (answers v [] (p ++ added)) n
answer_of-grown v p added (Leaf a) b = refl
answer_of-grown v p added (Branch bit low high) b =
    let z = sym (answer-grown v p added low b.0) in
    let o = sym (answer-grown v p added high b.1) in
    elim (v bit) as (λ c. cond c (answer p v high) (answer p v low) ≡ cond c (answer (p ++ added) v high) (answer (p ++ added) v low)) [ true ↦ o | false ↦ z ]

split_at : (ns : List Node) (i : ℕ) → i < length ns → ns ≡ take i ns ++ slice_index_or ns i (Leaf Never) ∷ drop (i + 1) ns
split_at ns i inside = sym (take-append-drop i ns) ∙ ap (λ l. take i ns ++ l) (drop_more ns i (Leaf Never) inside)

-- a node of a table answers by its children
pub answer-at : (v : ℕ → Bool) (ns : List Node) (i : ℕ) → IsTable ns → i < length ns → answer ns v i ≡ answer_of v (answers v [] ns) (slice_index_or ns i (Leaf Never))
answer-at v ns i h inside =
    let p = take i ns in
    let n = slice_index_or ns i (Leaf Never) in
    let rest = drop (i + 1) ns in
    let long : length p ≡ i = length-take-le i ns (omega arith) in
    let whole : ns ≡ (p ++ n ∷ []) ++ rest = split_at ns i inside ∙ sym (append_assoc p (n ∷ []) rest) in
    let one = length-append p (n ∷ []) in
    let before : IsBefore (length p) n = subst (λ k. IsBefore k n) (sym long) (h i inside) in
    ap (λ l. answer l v i) whole
    ∙ answer-grown v (p ++ n ∷ []) rest i (omega arith)
    ∙ ap (λ k. answer (p ++ n ∷ []) v k) (sym long)
    ∙ answer-new v p n
    ∙ answer_of-grown v p (n ∷ rest) n before
    ∙ ap (λ l. answer_of v (answers v [] l) n) (sym (split_at ns i inside))

pub grown_more : (a b c : List Node) → Grew a b → Grew b c → Grew a c
grown_more a b c g h = record { added = g.added ++ h.added; is = h.is ∙ ap (λ l. l ++ h.added) g.is ∙ append_assoc a g.added h.added }

pub grown_same : (a b : List Node) → b ≡ a → Grew a b
grown_same a b e = record { added = []; is = e ∙ sym (append-nil a) }

pub grown-answer : (v : ℕ → Bool) (a b : List Node) → Grew a b → (i : ℕ) → i < length a → answer b v i ≡ answer a v i
grown-answer v a b g i inside = ap (λ l. answer l v i) g.is ∙ answer-grown v a g.added i inside

pub grown-length : (a b : List Node) → Grew a b → length a ≤ length b
grown-length a b g = let long = ap length g.is ∙ length-append a g.added in omega arith

pub grown_inside : (a b : List Node) (i : ℕ) → Grew a b → i < length a → i < length b
grown_inside a b i g inside = let more = grown-length a b g in omega arith

table-push : (ns : List Node) (n : Node) → IsTable ns → IsBefore (length ns) n → IsTable (ns ++ n ∷ [])
table-push ns n h b i inside =
    let long = length-append ns (n ∷ []) in
    elim (cases_lt i (length ns)) [
      | inl less ↦ subst (IsBefore i) (sym (get_or_append_left ns (n ∷ []) (Leaf Never) i less)) (h i less)
      | inr not_less ↦
          let last : length ns ≡ i = omega arith in
          subst (IsBefore i) (sym (get_or_at ns n [] (Leaf Never) i last)) (subst (λ k. IsBefore k n) last b)
    ]

-- what the node at a place answers
pub answer-is : (v : ℕ → Bool) (ns : List Node) (i : ℕ) (n : Node) → IsTable ns → i < length ns → slice_index_or ns i (Leaf Never) ≡ n → answer ns v i ≡ node_answer ns n v
answer-is v ns i n h inside is = answer-at v ns i h inside ∙ ap (answer_of v (answers v [] ns)) is ∙ by n
  where
    by : (m : Node) → answer_of v (answers v [] ns) m ≡ node_answer ns m v
    by (Leaf a) = refl
    by (Branch bit low high) = refl

node-grown : (v : ℕ → Bool) (old new : List Node) (n : Node) → Grew old new → IsBefore (length old) n → node_answer new n v ≡ node_answer old n v
node-grown v old new (Leaf a) g b = refl
node-grown v old new (Branch bit low high) g b =
    ap (λ a. cond (v bit) a (answer new v low)) (grown-answer v old new g high b.1)
    ∙ ap (λ a. cond (v bit) (answer old v high) a) (grown-answer v old new g low b.0)

-- a node that is there already
pub found-gives : (nodes : List Node) (n : Node) (i : ℕ) → IsTable nodes → slice_get nodes i ≡ Some n → Gives nodes (node_answer nodes n) i
found-gives nodes n i table found = record {
  inside = slice_get_within nodes i n found;
  says = λ v. answer-is v nodes i n table (slice_get_within nodes i n found) (get_or_from_slice_get nodes i n (Leaf Never) found);
}

-- a node that was added
pub added-gives : (old new : List Node) (n : Node) (i : ℕ) → new ≡ old ++ n ∷ [] → IsTable old → IsBefore (length old) n → i ≡ length old → Gives new (node_answer old n) i
added-gives old new n i is table before at =
    let long = length-append old (n ∷ []) in
    let grew : Grew old (old ++ n ∷ []) = record { added = n ∷ []; is = refl } in
    let here : slice_get (old ++ n ∷ []) (length old) ≡ Some n =
    slice_get-get_or (old ++ n ∷ []) (length old) (Leaf Never) (omega arith) ∙ ap Some (get_or_at old n [] (Leaf Never) (length old) refl) in
    let made = found-gives (old ++ n ∷ []) n (length old) (table-push old n table before) here in
    subst (λ l. Gives l (node_answer old n) i) (sym is)
    (subst (Gives (old ++ n ∷ []) (node_answer old n)) (sym at)
    (record { inside = made.inside; says = λ v. made.says v ∙ node-grown v old (old ++ n ∷ []) n grew before }))

pub added-table : (old new : List Node) (n : Node) → new ≡ old ++ n ∷ [] → IsTable old → IsBefore (length old) n → IsTable new
added-table old new n is table before = subst IsTable (sym is) (table-push old n table before)

pub added-grew : (old new : List Node) (n : Node) → new ≡ old ++ n ∷ [] → Grew old new
added-grew old new n is = record { added = n ∷ []; is = is }

-- what two halves answer is what the whole answers
pub halves-whole : (bit : Bool) (low high zero one whole : Answer) → zero ≡ low → one ≡ high → (bit ≡ false → low ≡ whole) → (bit ≡ true → high ≡ whole)
    → cond bit one zero ≡ whole
halves-whole true low high zero one whole z o f t = o ∙ t refl
halves-whole false low high zero one whole z o f t = z ∙ f refl
