-- Parts that follow, with one more.
use Rattle.std.proofs.Common.{◌≡◌, ◌⊎◌, ℕ, ◌<◌, ◌+◌, List, [], ◌∷◌, ◌++◌, ◌∙◌, ap, sym, refl, subst, inl, inr, length, take, drop, get_or, arith}
use Rattle.std.proofs.lemmas.List.{append-nil, drop_more, take_more}
use Rattle.std.proofs.lemmas.List.{take-append-drop}
use Rattle.pcap_parts.specs.declared.join.Joined.{Joined}
use Rattle.pcap_parts.specs.declared.part.PartCut.{PartCut}
use Rattle.pcap_parts.specs.declared.join.Misfit.{Misfit}
use Rattle.pcap_parts.specs.declared.join.Misfit.TheVariants.{Missing}
use Rattle.pcap_parts.specs.Joining.{begun, joined, Fits, IsMisfit, IsWhole, Joins}
use Rattle.pcap_parts.specs.Selecting.{IsPassed, StopsAt, Takes}

pub Joins-more : (j : Joined) (ps : List PartCut) (k : Joined) (p : PartCut) → Joins j ps k → Fits k p → Joins j (ps ++ p ∷ []) (joined k p)
Joins-more j [] k p same fits = subst (λ (i : Joined). Fits i p × (joined k p ≡ joined i p)) same (fits, refl)
Joins-more j (q ∷ ps) k p (first, rest) fits = (first, Joins-more (joined j q) ps k p rest fits)

-- what is taken of some parts, and of one more that follows
pub Takes-taken : (j : Joined) (ps taken : List PartCut) (k : Joined) (p : PartCut) → Takes j ps taken k → Fits k p
    → Takes j (ps ++ p ∷ []) (taken ++ p ∷ []) (joined k p)
Takes-taken j [] taken k p (none, same) fits =
    inl ([], ap (λ (l : List PartCut). l ++ p ∷ []) none, subst (λ (i : Joined). Fits i p) same fits, (refl, ap (λ (i : Joined). joined i p) same))
Takes-taken j (q ∷ ps) taken k p takes fits = elim takes [
  | inl w ↦ let (others, is, first, more) = w in
      inl (others ++ p ∷ [], ap (λ (l : List PartCut). l ++ p ∷ []) is, first, Takes-taken (joined j q) ps others k p more fits)
  | inr w ↦ inr (w.0, Takes-taken j ps taken k p w.1 fits)
]

-- and of one more that is passed over
pub Takes-passed : (j : Joined) (ps taken : List PartCut) (k : Joined) (p : PartCut) → Takes j ps taken k → IsPassed k p
    → Takes j (ps ++ p ∷ []) taken k
Takes-passed j [] taken k p (none, same) passed = inr (subst (λ (i : Joined). IsPassed i p) same passed, (none, same))
Takes-passed j (q ∷ ps) taken k p takes passed = elim takes [
  | inl w ↦ let (others, is, first, more) = w in inl (others, is, first, Takes-passed (joined j q) ps others k p more passed)
  | inr w ↦ inr (w.0, Takes-passed j ps taken k p w.1 passed)
]

-- where nothing is taken nothing changed
pub Takes-none : (j : Joined) (ps taken : List PartCut) (k : Joined) → Takes j ps taken k → taken ≡ [] → k ≡ j
Takes-none j [] taken k takes none = takes.1
Takes-none j (q ∷ ps) taken k takes none = elim takes [
  | inl w ↦ let (others, is, first, more) = w in absurd (omega (arith, ap length (sym none ∙ is)))
  | inr w ↦ Takes-none j ps taken k w.1 none
]

-- the parts that are taken follow each other
pub Takes-joins : (j : Joined) (ps taken : List PartCut) (k : Joined) → Takes j ps taken k → Joins j taken k
Takes-joins j [] taken k takes = subst (λ (ts : List PartCut). Joins j ts k) (sym takes.0) takes.1
Takes-joins j (q ∷ ps) taken k takes = elim takes [
  | inl w ↦ let (others, is, first, more) = w in subst (λ (ts : List PartCut). Joins j ts k) (sym is) (first, Takes-joins (joined j q) ps others k more)
  | inr w ↦ Takes-joins j ps taken k w.1
]

-- the same of the next one of all parts
pub Takes-next-taken : (j : Joined) (parts taken : List PartCut) (k : Joined) (i : ℕ) (p : PartCut) → i < length parts
    → Takes j (take i parts) taken k → Fits k (get_or parts i p) → Takes j (take (i + 1) parts) (taken ++ get_or parts i p ∷ []) (joined k (get_or parts i p))
Takes-next-taken j parts taken k i p lt takes fits =
    subst (λ (ps : List PartCut). Takes j ps (taken ++ get_or parts i p ∷ []) (joined k (get_or parts i p))) (sym (take_more parts i p lt))
    (Takes-taken j (take i parts) taken k (get_or parts i p) takes fits)

pub Takes-next-passed : (j : Joined) (parts taken : List PartCut) (k : Joined) (i : ℕ) (p : PartCut) → i < length parts
    → Takes j (take i parts) taken k → IsPassed k (get_or parts i p) → Takes j (take (i + 1) parts) taken k
Takes-next-passed j parts taken k i p lt takes passed =
    subst (λ (ps : List PartCut). Takes j ps taken k) (sym (take_more parts i p lt)) (Takes-passed j (take i parts) taken k (get_or parts i p) takes passed)

-- the next one of all parts does not follow
pub stops_at : (size : ℕ) (parts taken : List PartCut) (k : Joined) (i : ℕ) (p : PartCut) (misfit : Misfit) → i < length parts
    → Takes (begun size) (take i parts) taken k → IsMisfit k (get_or parts i p) misfit → StopsAt size parts misfit
stops_at size parts taken k i p misfit lt takes is = record {
  before = take i parts;
  left = get_or parts i p ∷ drop (i + 1) parts;
  are = sym (take-append-drop i parts) ∙ ap (λ (l : List PartCut). take i parts ++ l) (drop_more parts i p lt);
  taken = taken;
  joined = k;
  takes = takes;
  stops = is;
}

-- all are passed or taken, and what was taken is not the whole
pub falls_short : (size : ℕ) (parts taken : List PartCut) (k : Joined) (at : ℕ) → Takes (begun size) parts taken k → at ≡ k.next
    → ((taken ≡ []) ⊎ (IsWhole k → ⊥)) → StopsAt size parts (Missing at)
falls_short size parts taken k at takes is short = record {
  before = parts;
  left = [];
  are = sym (append-nil parts);
  taken = taken;
  joined = k;
  takes = takes;
  stops = (is, short);
}
