-- How the merged list grows with each of the two lists.
use Rattle.std.proofs.Common.{◌≡◌, Bool, true, false, true≢false, List, [], ◌∷◌, ◌++◌, map, refl, sym, ap, ◌∙◌, subst, append_assoc, append-nil}
use Rattle.std.proofs.lemmas.List.{map-append}
use Rattle.handover.specs.declared.calls.Feed.{Feed}
use Rattle.handover.specs.declared.calls.Take.{Take}
use Rattle.handover.specs.declared.calls.Take.TheVariants.{Full, Nothing, Ended}
use Rattle.handover.specs.History.{Happening, fed, got, shut, Kind, plain, stores, finds_closed, kind, by_kind, finds, with_read, turns_of, reads_of, first_turn, later_turns, deal, merge, feeds_in, takes_in}
use Rattle.handover.specs.Tidy.{by_kind_type, HasTurn, AreLeft, Tidy, AllFind}

-- ---- One call more of the feeder

-- a call that stores nothing goes before the reads of this turn
pub record Before (f : Feed) (full : Bool) (m n : List Happening) : Type 0 where
  pub front : List Happening
  pub reads : List Take
  pub was : m ≡ front ++ map got reads
  pub is : n ≡ front ++ fed f ∷ map got reads
  pub none : full ≡ true → reads ≡ []

behind : (f : Feed) (full : Bool) (p m n : List Happening) (e : Happening) → Before f full m n → Before f full (p ++ e ∷ m) (p ++ e ∷ n)
behind f full p m n e r = record {
  front = p ++ e ∷ r.front;
  reads = r.reads;
  was = ap (λ (l : List Happening). p ++ e ∷ l) r.was ∙ sym (append_assoc p (e ∷ r.front) (map got r.reads));
  is = ap (λ (l : List Happening). p ++ e ∷ l) r.is ∙ sym (append_assoc p (e ∷ r.front) (fed f ∷ map got r.reads));
  none = r.none;
}

none_left : (us : List (List Take)) → AreLeft true us → reads_of us ≡ []
none_left [] h = refl
none_left (u ∷ []) h = absurd (true≢false h)
none_left (u ∷ v ∷ us) h = absurd h

pub plain_before : (us : List (List Take)) (fs : List Feed) (f : Feed) (full : Bool) → kind f ≡ plain → finds fs ≡ false → Tidy us fs full
    → Before f full (deal us fs) (deal us (fs ++ f ∷ []))
plain_before us [] f full is none h = record {
  front = [];
  reads = reads_of us;
  was = refl;
  is = ap (λ (b : Kind). by_kind b (fed f ∷ map got (reads_of us)) (map got (first_turn us) ++ fed f ∷ map got (reads_of (later_turns us))) (map got (reads_of us) ++ shut ∷ fed f ∷ [])) is;
  none = λ y. none_left us (subst (λ (b : Bool). AreLeft b us) y h);
}
plain_before us (g ∷ fs) f full is none h =
    elim (kind g) as (λ b. by_kind b (finds fs) (finds fs) true ≡ false → by_kind_type b (Tidy us fs full) (HasTurn us × Tidy (later_turns us) fs full) (AreLeft full us × AllFind fs)
    → Before f full (by_kind b (fed g ∷ deal us fs) (map got (first_turn us) ++ fed g ∷ deal (later_turns us) fs) (map got (reads_of us) ++ shut ∷ fed g ∷ map fed fs))
    (by_kind b (fed g ∷ deal us (fs ++ f ∷ [])) (map got (first_turn us) ++ fed g ∷ deal (later_turns us) (fs ++ f ∷ [])) (map got (reads_of us) ++ shut ∷ fed g ∷ map fed (fs ++ f ∷ [])))) [
      | plain ↦ λ n k. behind f full [] _ _ (fed g) (plain_before us fs f full is n k)
      | stores ↦ λ n k. behind f full (map got (first_turn us)) _ _ (fed g) (plain_before (later_turns us) fs f full is n k.1)
      | finds_closed ↦ λ n k. absurd (true≢false n)
    ] none h

-- a call that stores 1 takes the turn that is left, and goes to the end
store_ends : (us : List (List Take)) (f : Feed) → AreLeft false us
    → (map got (first_turn us) ++ fed f ∷ map got (reads_of (later_turns us)) ≡ map got (reads_of us) ++ fed f ∷ []) × (HasTurn us × AreLeft true (later_turns us))
store_ends [] f h = absurd (true≢false (sym h))
store_ends (u ∷ []) f h = (ap (λ (l : List Take). map got l ++ fed f ∷ []) (sym (append-nil u)), (tt, refl))
store_ends (u ∷ v ∷ us) f h = absurd h

pub store_last : (us : List (List Take)) (fs : List Feed) (f : Feed) → kind f ≡ stores → finds fs ≡ false → Tidy us fs false
    → (deal us (fs ++ f ∷ []) ≡ deal us fs ++ fed f ∷ []) × Tidy us (fs ++ f ∷ []) true
store_last us [] f is none h = let r = store_ends us f h in (
  ap (λ (b : Kind). by_kind b (fed f ∷ map got (reads_of us)) (map got (first_turn us) ++ fed f ∷ map got (reads_of (later_turns us))) (map got (reads_of us) ++ shut ∷ fed f ∷ [])) is ∙ r.0,
  subst (λ (b : Kind). by_kind_type b (AreLeft true us) (HasTurn us × AreLeft true (later_turns us)) (AreLeft true us × Unit {0})) (sym is) r.1,
)
store_last us (g ∷ fs) f is none h =
    elim (kind g) as (λ b. by_kind b (finds fs) (finds fs) true ≡ false → by_kind_type b (Tidy us fs false) (HasTurn us × Tidy (later_turns us) fs false) (AreLeft false us × AllFind fs)
    → (by_kind b (fed g ∷ deal us (fs ++ f ∷ [])) (map got (first_turn us) ++ fed g ∷ deal (later_turns us) (fs ++ f ∷ [])) (map got (reads_of us) ++ shut ∷ fed g ∷ map fed (fs ++ f ∷ []))
    ≡ by_kind b (fed g ∷ deal us fs) (map got (first_turn us) ++ fed g ∷ deal (later_turns us) fs) (map got (reads_of us) ++ shut ∷ fed g ∷ map fed fs) ++ fed f ∷ [])
    × by_kind_type b (Tidy us (fs ++ f ∷ []) true) (HasTurn us × Tidy (later_turns us) (fs ++ f ∷ []) true) (AreLeft true us × AllFind (fs ++ f ∷ []))) [
      | plain ↦ λ n k. let r = store_last us fs f is n k in (ap (λ (l : List Happening). fed g ∷ l) r.0, r.1)
      | stores ↦ λ n k. let r = store_last (later_turns us) fs f is n k.1 in
          (ap (λ (l : List Happening). map got (first_turn us) ++ fed g ∷ l) r.0 ∙ sym (append_assoc (map got (first_turn us)) (fed g ∷ deal (later_turns us) fs) (fed f ∷ [])), (k.0, r.1))
      | finds_closed ↦ λ n k. absurd (true≢false n)
    ] none h

-- the first call that found `closed` brings the Close before it, both at the end
pub shut_last : (us : List (List Take)) (fs : List Feed) (f : Feed) (full : Bool) → kind f ≡ finds_closed → finds fs ≡ false → Tidy us fs full
    → (deal us (fs ++ f ∷ []) ≡ deal us fs ++ shut ∷ fed f ∷ []) × Tidy us (fs ++ f ∷ []) full
shut_last us [] f full is none h = (
  ap (λ (b : Kind). by_kind b (fed f ∷ map got (reads_of us)) (map got (first_turn us) ++ fed f ∷ map got (reads_of (later_turns us))) (map got (reads_of us) ++ shut ∷ fed f ∷ [])) is,
  subst (λ (b : Kind). by_kind_type b (AreLeft full us) (HasTurn us × AreLeft full (later_turns us)) (AreLeft full us × Unit {0})) (sym is) (h, tt),
)
shut_last us (g ∷ fs) f full is none h =
    elim (kind g) as (λ b. by_kind b (finds fs) (finds fs) true ≡ false → by_kind_type b (Tidy us fs full) (HasTurn us × Tidy (later_turns us) fs full) (AreLeft full us × AllFind fs)
    → (by_kind b (fed g ∷ deal us (fs ++ f ∷ [])) (map got (first_turn us) ++ fed g ∷ deal (later_turns us) (fs ++ f ∷ [])) (map got (reads_of us) ++ shut ∷ fed g ∷ map fed (fs ++ f ∷ []))
    ≡ by_kind b (fed g ∷ deal us fs) (map got (first_turn us) ++ fed g ∷ deal (later_turns us) fs) (map got (reads_of us) ++ shut ∷ fed g ∷ map fed fs) ++ shut ∷ fed f ∷ [])
    × by_kind_type b (Tidy us (fs ++ f ∷ []) full) (HasTurn us × Tidy (later_turns us) (fs ++ f ∷ []) full) (AreLeft full us × AllFind (fs ++ f ∷ []))) [
      | plain ↦ λ n k. let r = shut_last us fs f full is n k in (ap (λ (l : List Happening). fed g ∷ l) r.0, r.1)
      | stores ↦ λ n k. let r = shut_last (later_turns us) fs f full is n k.1 in
          (ap (λ (l : List Happening). map got (first_turn us) ++ fed g ∷ l) r.0 ∙ sym (append_assoc (map got (first_turn us)) (fed g ∷ deal (later_turns us) fs) (shut ∷ fed f ∷ [])), (k.0, r.1))
      | finds_closed ↦ λ n k. absurd (true≢false n)
    ] none h

all_more : (fs : List Feed) (f : Feed) → kind f ≡ finds_closed → AllFind fs → AllFind (fs ++ f ∷ [])
all_more [] f is h = (is, tt)
all_more (g ∷ fs) f is h = (h.0, all_more fs f is h.1)

-- a later one goes to the end
pub closed_last : (us : List (List Take)) (fs : List Feed) (f : Feed) (full : Bool) → kind f ≡ finds_closed → finds fs ≡ true → Tidy us fs full
    → (deal us (fs ++ f ∷ []) ≡ deal us fs ++ fed f ∷ []) × Tidy us (fs ++ f ∷ []) full
closed_last us [] f full is some h = absurd (true≢false (sym some))
closed_last us (g ∷ fs) f full is some h =
    elim (kind g) as (λ b. by_kind b (finds fs) (finds fs) true ≡ true → by_kind_type b (Tidy us fs full) (HasTurn us × Tidy (later_turns us) fs full) (AreLeft full us × AllFind fs)
    → (by_kind b (fed g ∷ deal us (fs ++ f ∷ [])) (map got (first_turn us) ++ fed g ∷ deal (later_turns us) (fs ++ f ∷ [])) (map got (reads_of us) ++ shut ∷ fed g ∷ map fed (fs ++ f ∷ []))
    ≡ by_kind b (fed g ∷ deal us fs) (map got (first_turn us) ++ fed g ∷ deal (later_turns us) fs) (map got (reads_of us) ++ shut ∷ fed g ∷ map fed fs) ++ fed f ∷ [])
    × by_kind_type b (Tidy us (fs ++ f ∷ []) full) (HasTurn us × Tidy (later_turns us) (fs ++ f ∷ []) full) (AreLeft full us × AllFind (fs ++ f ∷ []))) [
      | plain ↦ λ n k. let r = closed_last us fs f full is n k in (ap (λ (l : List Happening). fed g ∷ l) r.0, r.1)
      | stores ↦ λ n k. let r = closed_last (later_turns us) fs f full is n k.1 in
          (ap (λ (l : List Happening). map got (first_turn us) ++ fed g ∷ l) r.0 ∙ sym (append_assoc (map got (first_turn us)) (fed g ∷ deal (later_turns us) fs) (fed f ∷ [])), (k.0, r.1))
      | finds_closed ↦ λ n k. (ap (λ (l : List Happening). map got (reads_of us) ++ shut ∷ fed g ∷ l) (map-append fed fs (f ∷ [])) ∙ sym (append_assoc (map got (reads_of us)) (shut ∷ fed g ∷ map fed fs) (fed f ∷ [])), (k.0, all_more fs f is k.1))
    ] some h

-- ---- One read more

abbrev pub Answers : Take → Bool → Type 0
Answers (Full b) full = full ≡ true
Answers Nothing full = full ≡ false
Answers Ended full = full ≡ false

-- a read after the last of these turns
abbrev into_last : Take → List (List Take) → List (List Take)
into_last t [] = (t ∷ []) ∷ []
into_last t (u ∷ []) = (u ++ t ∷ []) ∷ []
into_last t (u ∷ v ∷ us) = u ∷ into_last t (v ∷ us)

-- the turns with one read more: a Full begins one
abbrev add_read : Take → List (List Take) → List (List Take)
add_read (Full b) us = us ++ (Full b ∷ []) ∷ []
add_read Nothing us = into_last Nothing us
add_read Ended us = into_last Ended us

has_read : (t : Take) (us : List (List Take)) → HasTurn (with_read t us)
has_read t [] = tt
has_read t (u ∷ us) = tt

has_turns : (ts : List Take) → HasTurn (turns_of ts)
has_turns [] = tt
has_turns (Full b ∷ ts) = tt
has_turns (Nothing ∷ ts) = has_read Nothing (turns_of ts)
has_turns (Ended ∷ ts) = has_read Ended (turns_of ts)

-- a read in front of the first turn, and one after the last
both_ends : (r t : Take) (us : List (List Take)) → HasTurn us → with_read r (add_read t us) ≡ add_read t (with_read r us)
both_ends r t [] h = absurd h
both_ends r (Full b) (u ∷ us) h = refl
both_ends r Nothing (u ∷ []) h = refl
both_ends r Nothing (u ∷ v ∷ us) h = refl
both_ends r Ended (u ∷ []) h = refl
both_ends r Ended (u ∷ v ∷ us) h = refl

behind_turn : (u : List Take) (t : Take) (us : List (List Take)) → HasTurn us → u ∷ add_read t us ≡ add_read t (u ∷ us)
behind_turn u t [] h = absurd h
behind_turn u (Full b) (v ∷ us) h = refl
behind_turn u Nothing (v ∷ us) h = refl
behind_turn u Ended (v ∷ us) h = refl

turns_nil : (t : Take) → turns_of (t ∷ []) ≡ add_read t ([] ∷ [])
turns_nil (Full b) = refl
turns_nil Nothing = refl
turns_nil Ended = refl

turns_more : (ts : List Take) (t : Take) → turns_of (ts ++ t ∷ []) ≡ add_read t (turns_of ts)
turns_more [] t = turns_nil t
turns_more (Full b ∷ ts) t =
    ap (λ (us : List (List Take)). [] ∷ with_read (Full b) us) (turns_more ts t)
    ∙ (ap (λ (us : List (List Take)). [] ∷ us) (both_ends (Full b) t (turns_of ts) (has_turns ts)) ∙ behind_turn [] t (with_read (Full b) (turns_of ts)) (has_read (Full b) (turns_of ts)))
turns_more (Nothing ∷ ts) t = ap (with_read Nothing) (turns_more ts t) ∙ both_ends Nothing t (turns_of ts) (has_turns ts)
turns_more (Ended ∷ ts) t = ap (with_read Ended) (turns_more ts t) ∙ both_ends Ended t (turns_of ts) (has_turns ts)

-- where the hold is empty, a turn is left
some_left : (us : List (List Take)) (fs : List Feed) → finds fs ≡ false → Tidy us fs false → HasTurn us
some_left [] [] n h = absurd (true≢false (sym h))
some_left (u ∷ us) [] n h = tt
some_left us (g ∷ fs) n h = elim (kind g) as (λ b. by_kind b (finds fs) (finds fs) true ≡ false → by_kind_type b (Tidy us fs false) (HasTurn us × Tidy (later_turns us) fs false) (AreLeft false us × AllFind fs) → HasTurn us) [
  | plain ↦ λ m k. some_left us fs m k
  | stores ↦ λ m k. k.0
  | finds_closed ↦ λ m k. absurd (true≢false m)
] n h

-- a read of an empty hold belongs to a turn that is left
abbrev Belongs : Take → List (List Take) → Type 0
Belongs (Full b) us = Unit {0}
Belongs Nothing us = HasTurn us
Belongs Ended us = HasTurn us

belongs : (us : List (List Take)) (fs : List Feed) (t : Take) (full : Bool) → Answers t full → finds fs ≡ false → Tidy us fs full → Belongs t us
belongs us fs (Full b) full a n h = tt
belongs us fs Nothing full a n h = some_left us fs n (subst (λ (b : Bool). Tidy us fs b) a h)
belongs us fs Ended full a n h = some_left us fs n (subst (λ (b : Bool). Tidy us fs b) a h)

-- so it leaves the first turn as it is
turn_more : (us : List (List Take)) (t : Take) → HasTurn us → Belongs t (later_turns us)
    → (first_turn (add_read t us) ≡ first_turn us) × (later_turns (add_read t us) ≡ add_read t (later_turns us)) × HasTurn (add_read t us)
turn_more [] t h b = absurd h
turn_more (u ∷ us) (Full x) h b = (refl, refl, tt)
turn_more (u ∷ []) Nothing h b = absurd b
turn_more (u ∷ v ∷ us) Nothing h b = (refl, refl, tt)
turn_more (u ∷ []) Ended h b = absurd b
turn_more (u ∷ v ∷ us) Ended h b = (refl, refl, tt)

one_turn : (u : List Take) (t : Take) → map got ((u ++ t ∷ []) ++ []) ≡ map got (u ++ []) ++ got t ∷ []
one_turn u t = ap (map got) (append-nil (u ++ t ∷ [])) ∙ (map-append got u (t ∷ []) ∙ ap (λ (l : List Take). map got l ++ got t ∷ []) (sym (append-nil u)))

read_ends : (us : List (List Take)) (t : Take) (full : Bool) → Answers t full → AreLeft full us
    → (map got (reads_of (add_read t us)) ≡ map got (reads_of us) ++ got t ∷ []) × AreLeft false (add_read t us)
read_ends [] (Full b) full a h = (refl, refl)
read_ends [] Nothing full a h = absurd (true≢false (sym h ∙ a))
read_ends [] Ended full a h = absurd (true≢false (sym h ∙ a))
read_ends (u ∷ []) (Full b) full a h = absurd (true≢false (sym a ∙ h))
read_ends (u ∷ []) Nothing full a h = (one_turn u Nothing, refl)
read_ends (u ∷ []) Ended full a h = (one_turn u Ended, refl)
read_ends (u ∷ v ∷ us) t full a h = absurd h

dealt_more : (us : List (List Take)) (fs : List Feed) (t : Take) (full : Bool) → Answers t full → finds fs ≡ false → Tidy us fs full
    → (deal (add_read t us) fs ≡ deal us fs ++ got t ∷ []) × Tidy (add_read t us) fs false
dealt_more us [] t full a n h = read_ends us t full a h
dealt_more us (g ∷ fs) t full a n h =
    elim (kind g) as (λ b. by_kind b (finds fs) (finds fs) true ≡ false → by_kind_type b (Tidy us fs full) (HasTurn us × Tidy (later_turns us) fs full) (AreLeft full us × AllFind fs)
    → (by_kind b (fed g ∷ deal (add_read t us) fs) (map got (first_turn (add_read t us)) ++ fed g ∷ deal (later_turns (add_read t us)) fs) (map got (reads_of (add_read t us)) ++ shut ∷ fed g ∷ map fed fs)
    ≡ by_kind b (fed g ∷ deal us fs) (map got (first_turn us) ++ fed g ∷ deal (later_turns us) fs) (map got (reads_of us) ++ shut ∷ fed g ∷ map fed fs) ++ got t ∷ [])
    × by_kind_type b (Tidy (add_read t us) fs false) (HasTurn (add_read t us) × Tidy (later_turns (add_read t us)) fs false) (AreLeft false (add_read t us) × AllFind fs)) [
      | plain ↦ λ m k. let r = dealt_more us fs t full a m k in (ap (λ (l : List Happening). fed g ∷ l) r.0, r.1)
      | stores ↦ λ m k. let w = turn_more us t k.0 (belongs (later_turns us) fs t full a m k.1) in let r = dealt_more (later_turns us) fs t full a m k.1 in (
        (λ i. map got (w.0 i) ++ fed g ∷ deal (w.1 i) fs)
            ∙ (ap (λ (l : List Happening). map got (first_turn us) ++ fed g ∷ l) r.0
            ∙ sym (append_assoc (map got (first_turn us)) (fed g ∷ deal (later_turns us) fs) (got t ∷ []))),
        (w.2, subst (λ (l : List (List Take)). Tidy l fs false) (sym w.1) r.1),
      )
      | finds_closed ↦ λ m k. absurd (true≢false m)
    ] n h

pub read_last : (fs : List Feed) (ts : List Take) (t : Take) (full : Bool) → Answers t full → finds fs ≡ false → Tidy (turns_of ts) fs full
    → (merge fs (ts ++ t ∷ []) ≡ merge fs ts ++ got t ∷ []) × Tidy (turns_of (ts ++ t ∷ [])) fs false
read_last fs ts t full a n h =
    let r = dealt_more (turns_of ts) fs t full a n h in
    let is = turns_more ts t in (ap (λ (us : List (List Take)). deal us fs) is ∙ r.0, subst (λ (us : List (List Take)). Tidy us fs false) (sym is) r.1)

-- ---- The merged list has the calls of both, in their orders

feeds_got : (ts : List Take) (es : List Happening) → feeds_in (map got ts ++ es) ≡ feeds_in es
feeds_got [] es = refl
feeds_got (t ∷ ts) es = feeds_got ts es

takes_got : (ts : List Take) (es : List Happening) → takes_in (map got ts ++ es) ≡ ts ++ takes_in es
takes_got [] es = refl
takes_got (t ∷ ts) es = ap (λ (l : List Take). t ∷ l) (takes_got ts es)

pub feeds_fed : (fs : List Feed) → feeds_in (map fed fs) ≡ fs
feeds_fed [] = refl
feeds_fed (f ∷ fs) = ap (λ (l : List Feed). f ∷ l) (feeds_fed fs)

takes_fed : (fs : List Feed) → takes_in (map fed fs) ≡ []
takes_fed [] = refl
takes_fed (f ∷ fs) = takes_fed fs

pub reads_with : (t : Take) (us : List (List Take)) → reads_of (with_read t us) ≡ t ∷ reads_of us
reads_with t [] = refl
reads_with t (u ∷ us) = refl

-- cut into turns, no read is lost
pub reads_whole : (ts : List Take) → reads_of (turns_of ts) ≡ ts
reads_whole [] = refl
reads_whole (Full b ∷ ts) = reads_with (Full b) (turns_of ts) ∙ ap (λ (l : List Take). Full b ∷ l) (reads_whole ts)
reads_whole (Nothing ∷ ts) = reads_with Nothing (turns_of ts) ∙ ap (λ (l : List Take). Nothing ∷ l) (reads_whole ts)
reads_whole (Ended ∷ ts) = reads_with Ended (turns_of ts) ∙ ap (λ (l : List Take). Ended ∷ l) (reads_whole ts)

first_whole : (us : List (List Take)) → first_turn us ++ reads_of (later_turns us) ≡ reads_of us
first_whole [] = refl
first_whole (u ∷ us) = refl

feeds_in-deal : (us : List (List Take)) (fs : List Feed) → feeds_in (deal us fs) ≡ fs
feeds_in-deal us [] = ap feeds_in (sym (append-nil (map got (reads_of us)))) ∙ feeds_got (reads_of us) []
feeds_in-deal us (g ∷ fs) = elim (kind g) as (λ b. feeds_in (by_kind b (fed g ∷ deal us fs) (map got (first_turn us) ++ fed g ∷ deal (later_turns us) fs) (map got (reads_of us) ++ shut ∷ fed g ∷ map fed fs)) ≡ g ∷ fs) [
  | plain ↦ ap (λ (l : List Feed). g ∷ l) (feeds_in-deal us fs)
  | stores ↦ feeds_got (first_turn us) (fed g ∷ deal (later_turns us) fs) ∙ ap (λ (l : List Feed). g ∷ l) (feeds_in-deal (later_turns us) fs)
  | finds_closed ↦ feeds_got (reads_of us) (shut ∷ fed g ∷ map fed fs) ∙ ap (λ (l : List Feed). g ∷ l) (feeds_fed fs)
]

takes_in-deal : (us : List (List Take)) (fs : List Feed) → takes_in (deal us fs) ≡ reads_of us
takes_in-deal us [] = ap takes_in (sym (append-nil (map got (reads_of us)))) ∙ (takes_got (reads_of us) [] ∙ append-nil (reads_of us))
takes_in-deal us (g ∷ fs) = elim (kind g) as (λ b. takes_in (by_kind b (fed g ∷ deal us fs) (map got (first_turn us) ++ fed g ∷ deal (later_turns us) fs) (map got (reads_of us) ++ shut ∷ fed g ∷ map fed fs)) ≡ reads_of us) [
  | plain ↦ takes_in-deal us fs
  | stores ↦ takes_got (first_turn us) (fed g ∷ deal (later_turns us) fs) ∙ (ap (λ (l : List Take). first_turn us ++ l) (takes_in-deal (later_turns us) fs) ∙ first_whole us)
  | finds_closed ↦ takes_got (reads_of us) (shut ∷ fed g ∷ map fed fs) ∙ (ap (λ (l : List Take). reads_of us ++ l) (takes_fed fs) ∙ append-nil (reads_of us))
]

pub feeds_in-merge : (fs : List Feed) (ts : List Take) → feeds_in (merge fs ts) ≡ fs
feeds_in-merge fs ts = feeds_in-deal (turns_of ts) fs

pub takes_in-merge : (fs : List Feed) (ts : List Take) → takes_in (merge fs ts) ≡ ts
takes_in-merge fs ts = takes_in-deal (turns_of ts) fs ∙ reads_whole ts
