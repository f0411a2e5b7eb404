-- What is asked for one packet more.
use Rattle.std.proofs.Common.{◌≡◌, ℕ, zero, suc, ◌+◌, ◌<◌, ◌≤◌, Bool, true, false, List, [], ◌∷◌, ◌++◌, length, map, get_or, set, refl, ap, sym, ◌∙◌, arith, take, drop, if◌then◌else◌}
use Rattle.std.proofs.lemmas.List.{append-nil, append_assoc}
use Rattle.atomic_table.specs.Seated.{TableId}
use Rattle.bpfvm.specs.declared.insn.Insn.{Insn}
use Rattle.listener.specs.LookingBack.{count, is_arrival}
use Rattle.listener.specs.Messages.{Arrival, kept_by}
use Rattle.listener.specs.PlainList.{Request, Arrive, Flush}
use Rattle.listener.specs.declared.answer.Fed.{Fed}
use Rattle.listener.specs.declared.answer.Fed.TheVariants.{Passed, Stored, Held, Rotated, Dropped, Closed}
use Rattle.handover.specs.Asks.{asks}
use Rattle.handover.specs.Own.{received_in}
use Rattle.handover.specs.Steps.{FlushAnswers}
use Rattle.handover.specs.declared.calls.Feed.{Feed}
use Rattle.handover.specs.declared.calls.Feed.TheVariants as call
use Rattle.handover.specs.declared.view.Profile.{Profile}
use Rattle.replay.specs.Lines.{Line, fed_all, fed_with, line_of, slot_pair}
use Rattle.replay.specs.Rings.{Ring}
use Rattle.replay.specs.Playing.{Asking, asked, asked_at, asked_from, is_due}
use Rattle.replay.specs.declared.states.feeder.FeederSlot.{FeederSlot}

pub asks-append : (fs gs : List Feed) → asks (fs ++ gs) ≡ asks fs ++ asks gs
asks-append [] gs = refl
asks-append (call.Arrive m answer ∷ fs) gs = ap (λ rs. Arrive m ∷ rs) (asks-append fs gs)
asks-append (call.Flush full ∷ fs) gs = ap (λ rs. Flush ∷ rs) (asks-append fs gs)
asks-append (call.FlushClosed ∷ fs) gs = ap (λ rs. Flush ∷ rs) (asks-append fs gs)

-- no more arrived than were asked
pub arrivals-asked : (fs : List Feed) → received_in fs ≤ count is_arrival (asks fs)
arrivals-asked [] = omega arith
arrivals-asked (call.Arrive m Passed ∷ fs) = let r = arrivals-asked fs in omega (arith, r)
arrivals-asked (call.Arrive m Stored ∷ fs) = let r = arrivals-asked fs in omega (arith, r)
arrivals-asked (call.Arrive m Held ∷ fs) = let r = arrivals-asked fs in omega (arith, r)
arrivals-asked (call.Arrive m Rotated ∷ fs) = let r = arrivals-asked fs in omega (arith, r)
arrivals-asked (call.Arrive m Dropped ∷ fs) = let r = arrivals-asked fs in omega (arith, r)
arrivals-asked (call.Arrive m Closed ∷ fs) = let r = arrivals-asked fs in omega (arith, r)
arrivals-asked (call.Flush full ∷ fs) = let r = arrivals-asked fs in omega (arith, r)
arrivals-asked (call.FlushClosed ∷ fs) = let r = arrivals-asked fs in omega (arith, r)

asked-more : (t : Asking) (n : ℕ) (ps : List Arrival) (p : Arrival) → asked_from t n (ps ++ p ∷ []) ≡ asked_from t n ps ++ asked_at t (n + length ps) p
asked-more t n [] p = append-nil (asked_at t n p) ∙ ap (λ k. asked_at t k p) (omega arith)
asked-more t n (q ∷ ps) p =
    ap (λ xs. asked_at t n q ++ xs) (asked-more t (n + 1) ps p ∙ ap (λ k. asked_from t (n + 1) ps ++ asked_at t k p) (omega arith))
    ∙ sym (append_assoc (asked_at t n q) (asked_from t (n + 1) ps) (asked_at t (n + length (q ∷ ps)) p))

count-append : (rs ss : List Request) → count is_arrival (rs ++ ss) ≡ count is_arrival rs + count is_arrival ss
count-append [] ss = omega arith
count-append (r ∷ rs) ss = let e = count-append rs ss in omega (arith, e)

flushes-none : (due : Bool) → count is_arrival (if due then Flush ∷ [] else []) ≡ 0
flushes-none true = refl
flushes-none false = refl

-- one arrival is asked for each packet
pub count-asked : (t : Asking) (n : ℕ) (ps : List Arrival) → count is_arrival (asked_from t n ps) ≡ length ps
count-asked t n [] = refl
count-asked t n (p ∷ ps) =
    let e = count-append (asked_at t n p) (asked_from t (n + 1) ps) in
    let one = flushes-none (is_due t.flush_every n) in
    let more = count-asked t (n + 1) ps in omega (arith, e, one, more)

-- after a playlist no feeder was asked for more than its packets
pub few-asked : (bound : ℕ) (playlist : List Arrival) (starts : List Line) → length playlist < bound → (k : ℕ) (d : Line) → k < length (map (fed_all playlist) starts)
    → count is_arrival (get_or (map (fed_all playlist) starts) k d).asks < bound
few-asked bound playlist [] below k d inside = absurd (omega (arith, inside))
few-asked bound playlist (l ∷ ls) below zero d inside = let e = count-asked l.asking 0 playlist in omega (arith, e, below)
few-asked bound playlist (l ∷ ls) below (suc k) d inside = few-asked bound playlist ls below k d (omega (arith, inside))

-- the feeders after one more packet
pub all-fed : (playlist : List Arrival) (a : Arrival) (starts : List Line) → map (fed_with (length playlist) a) (map (fed_all playlist) starts) ≡ map (fed_all (playlist ++ a ∷ [])) starts
all-fed playlist a [] = refl
all-fed playlist a (l ∷ ls) =
    let one : fed_with (length playlist) a (fed_all playlist l) ≡ fed_all (playlist ++ a ∷ []) l =
    ap (λ rs. record { pair = l.pair; profile = l.profile; asking = l.asking; ring = l.ring; asks = rs })
    (sym (asked-more l.asking 0 playlist a ∙ ap (λ k. asked l.asking playlist ++ asked_at l.asking k a) (omega arith))) in
    ap (λ x. x ∷ map (fed_with (length playlist) a) (map (fed_all playlist) ls)) one ∙ ap (λ xs. fed_all (playlist ++ a ∷ []) l ∷ xs) (all-fed playlist a ls)

-- a packet leaves each feeder with its pair
pub pairs-fed : (n : ℕ) (a : Arrival) (olds news : List FeederSlot) → map line_of news ≡ map (fed_with n a) (map line_of olds) → map slot_pair news ≡ map slot_pair olds
pairs-fed n a [] [] e = refl
pairs-fed n a [] (y ∷ ys) e = absurd cc
pairs-fed n a (x ∷ xs) [] e = absurd cc
pairs-fed n a (x ∷ xs) (y ∷ ys) e =
    let first : line_of y ≡ fed_with n a (line_of x) = cc in let rest : map line_of ys ≡ map (fed_with n a) (map line_of xs) = cc in
    ap (λ p. p ∷ map slot_pair ys) (ap (λ (l : Line). l.pair) first) ∙ ap (λ ps. slot_pair x ∷ ps) (pairs-fed n a xs ys rest)

-- a list of what stands in the places of another
pub map-set : {X Y : Type 0} (f : X → Y) (xs : List X) (i : ℕ) (x : X) → map f (set xs i x) ≡ set (map f xs) i (f x)
map-set f [] i x = refl
map-set f (y ∷ ys) zero x = refl
map-set f (y ∷ ys) (suc i) x = ap (λ zs. f y ∷ zs) (map-set f ys i x)

pub get-map : {X Y : Type 0} (f : X → Y) (xs : List X) (i : ℕ) (d : X) → get_or (map f xs) i (f d) ≡ f (get_or xs i d)
get-map f [] i d = refl
get-map f (y ∷ ys) zero d = refl
get-map f (y ∷ ys) (suc i) d = get-map f ys i d

-- what is in a list at a place, whatever would stand in for it
pub get-any : {X : Type 0} (xs : List X) (i : ℕ) (d e : X) → i < length xs → get_or xs i d ≡ get_or xs i e
get-any [] i d e inside = absurd (omega (arith, inside))
get-any (x ∷ xs) zero d e inside = refl
get-any (x ∷ xs) (suc i) d e inside = get-any xs i d e (omega (arith, inside))

flush-asked : (full : Bool) (f : Feed) → FlushAnswers full f → asks (f ∷ []) ≡ Flush ∷ []
flush-asked full (call.Arrive m answer) a = absurd a
flush-asked full (call.Flush made) a = refl
flush-asked full call.FlushClosed a = refl

-- an arrival that is not followed by a flush
pub not-flushed : (t : Asking) (n : ℕ) (a : Arrival) (fs gs : List Feed) (answer : Fed) → gs ≡ fs ++ call.Arrive (kept_by t.program t.snap a) answer ∷ []
    → is_due t.flush_every n ≡ false → asks gs ≡ asks fs ++ asked_at t n a
not-flushed t n a fs gs answer grew due =
    ap asks grew ∙ asks-append fs (call.Arrive (kept_by t.program t.snap a) answer ∷ [])
    ∙ ap (λ (b : Bool). asks fs ++ Arrive (kept_by t.program t.snap a) ∷ (if b then Flush ∷ [] else [])) (sym due)

-- an arrival, and a flush after it
pub flushed-more : (t : Asking) (n : ℕ) (a : Arrival) (fs gs hs : List Feed) (answer : Fed) (full : Bool) (f : Feed)
    → gs ≡ fs ++ call.Arrive (kept_by t.program t.snap a) answer ∷ [] → hs ≡ gs ++ f ∷ [] → FlushAnswers full f
    → is_due t.flush_every n ≡ true → asks hs ≡ asks fs ++ asked_at t n a
flushed-more t n a fs gs hs answer full f grew flushed answers due =
    ap asks flushed ∙ asks-append gs (f ∷ []) ∙ ap (λ rs. asks gs ++ rs) (flush-asked full f answers)
    ∙ ap (λ rs. rs ++ Flush ∷ []) (ap asks grew ∙ asks-append fs (call.Arrive (kept_by t.program t.snap a) answer ∷ []))
    ∙ append_assoc (asks fs) (Arrive (kept_by t.program t.snap a) ∷ []) (Flush ∷ [])
    ∙ ap (λ (b : Bool). asks fs ++ Arrive (kept_by t.program t.snap a) ∷ (if b then Flush ∷ [] else [])) (sym due)

abbrev line : TableId → Profile → List Insn → ℕ → ℕ → Ring → List Request → Line
line pair profile program snap every ring rs =
    record { pair = pair; profile = profile; asking = record { program = program; snap = snap; flush_every = every }; ring = ring; asks = rs }

-- a feeder of which a call left all but what it was asked
pub same-line : (every : ℕ) (ring : Ring) (pair pair' : TableId) (profile profile' : Profile) (program program' : List Insn) (snap snap' : ℕ) (rs rs' : List Request)
    → pair' ≡ pair → profile' ≡ profile → program' ≡ program → snap' ≡ snap → rs' ≡ rs
    → line pair' profile' program' snap' every ring rs' ≡ line pair profile program snap every ring rs
same-line every ring pair pair' profile profile' program program' snap snap' rs rs' a b c d e =
    ap (λ x. line x profile' program' snap' every ring rs') a ∙ ap (λ x. line pair x program' snap' every ring rs') b
    ∙ ap (λ x. line pair profile x snap' every ring rs') c ∙ ap (λ x. line pair profile program x every ring rs') d
    ∙ ap (λ x. line pair profile program snap every ring x) e

-- those at the index and after it are as they were
pub rest-here : (f : Line → Line) (ls : List Line) (i : ℕ) (d : Line) → i < length ls → get_or ls i d ≡ get_or (map f (take i ls) ++ drop i ls) i d
rest-here f [] i d inside = absurd (omega (arith, inside))
rest-here f (l ∷ ls) zero d inside = refl
rest-here f (l ∷ ls) (suc i) d inside = rest-here f ls i d (omega (arith, inside))
