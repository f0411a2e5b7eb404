-- A listener's call is a step of a replay.
use Rattle.std.proofs.Common.{◌≡◌, ℕ, Bool, List, [], ◌∷◌, ◌++◌, Option, Some, None, option_map, refl, ap, sym, ◌∙◌, append_assoc, append-nil}
use Rattle.bpfvm.specs.declared.insn.Insn.{Insn}
use Rattle.listener.specs.declared.message.Message.{Message}
use Rattle.listener.specs.Listening.{Listening, listening, TakesStep}
use Rattle.listener.specs.PlainList.{Terms, PlainList, Request, Event, answer, answers, next, run, request_of, batch_in, batches, load}
use Rattle.listener.specs.Laws.{AnswersAreRight}
use Rattle.tap_steps.specs.declared.answer.Answered.{Answered}
use Rattle.tap_steps.specs.Answers.{answer_in, size_in, answered, all_answered}
use Rattle.tap_steps.specs.Watching.{watch, with_answer, after, stepped, all_stepped}

-- an answer as the code writes it
pub told_as : (s : PlainList) (e : Event) (shut : Bool) (bytes many taken : ℕ) → shut ≡ s.closed → bytes ≡ load s → many ≡ s.in_hold → taken ≡ size_in e →
    record { closed = shut; load = bytes; in_hold = many; size = taken; answer = answer_in e } ≡ answered s e
told_as s e shut bytes many taken closed loaded in_hold takes = λ i. record { closed = closed i; load = loaded i; in_hold = in_hold i; size = takes i; answer = answer_in e }

-- where answers are not followed, none is added
told_alike : (before : Option (List Answered)) (a b : Answered) → ((followed : List Answered) → before ≡ Some followed → a ≡ b) → with_answer a before ≡ with_answer b before
told_alike None a b same = refl
told_alike (Some followed) a b same = ap (λ (x : Answered). with_answer x (Some followed)) (same followed refl)

-- the one right answer is what the listener answers
pub step_is : (law : AnswersAreRight) (old new : Listening) (bs : List (List Message)) (before : Option (List Answered)) (e : Event) (r : Request) →
    request_of e ≡ r → TakesStep old e new →
    watch new (bs ++ batch_in e) (with_answer (answered old.list e) before) ≡ stepped r (watch old bs before)
unfolding stepped
step_is law old new bs before e r is takes =
    let same : e ≡ answer old.terms old.list r = (law old.terms old.list r).1 e is takes.steps.is_right in
    (λ i. watch (listening (takes.program i) (takes.snap i) (takes.terms i) (takes.steps.change i)) (bs ++ batch_in e) (with_answer (answered old.list e) before))
    ∙ ap (λ (f : Event). after f (watch old bs before)) same

-- the same, where nothing was read
pub step_without : (law : AnswersAreRight) (old new : Listening) (bs : List (List Message)) (before : Option (List Answered)) (e : Event) (r : Request) →
    request_of e ≡ r → batch_in e ≡ [] → TakesStep old e new →
    watch new bs (with_answer (answered old.list e) before) ≡ stepped r (watch old bs before)
step_without law old new bs before e r is none takes =
    ap (λ (l : List (List Message)). watch new l (with_answer (answered old.list e) before)) (sym (ap (λ (l : List (List Message)). bs ++ l) none ∙ append-nil bs))
    ∙ step_is law old new bs before e r is takes

-- the same, with the answer as the code writes it: its size is looked for only where answers are followed
pub step_told : (law : AnswersAreRight) (old new : Listening) (bs : List (List Message)) (before after : Option (List Answered)) (told : Answered) (e : Event) (r : Request) →
    request_of e ≡ r → batch_in e ≡ [] → (shut : Bool) (bytes many taken : ℕ) → shut ≡ old.list.closed → bytes ≡ load old.list → many ≡ old.list.in_hold →
    ((followed : List Answered) → before ≡ Some followed → taken ≡ size_in e) →
    told ≡ record { closed = shut; load = bytes; in_hold = many; size = taken; answer = answer_in e } → TakesStep old e new → after ≡ with_answer told before →
    watch new bs after ≡ stepped r (watch old bs before)
step_told law old new bs before after told e r is none shut bytes many taken closed loaded in_hold sized same takes adds =
    ap (watch new bs) (adds ∙ told_alike before told (answered old.list e) (λ followed some. same ∙ told_as old.list e shut bytes many taken closed loaded in_hold (sized followed some)))
    ∙ step_without law old new bs before e r is none takes

-- the answers after others
answers_join : (before : Option (List Answered)) (a : Answered) (later : List Answered) →
    option_map (λ l. l ++ later) (with_answer a before) ≡ option_map (λ l. l ++ a ∷ later) before
answers_join None a later = refl
answers_join (Some l) a later = ap Some (append_assoc l (a ∷ []) later)

no_more : (before : Option (List Answered)) → before ≡ option_map (λ l. l ++ []) before
no_more None = refl
no_more (Some l) = ap Some (sym (append-nil l))

-- steps of a listener's own are a run of its plain list
pub all_stepped_is : (program : List Insn) (snap : ℕ) (t : Terms) (s : PlainList) (bs : List (List Message)) (before : Option (List Answered)) (rs : List Request) →
    all_stepped rs (watch (listening program snap t s) bs before)
    ≡ watch (listening program snap t (run s (answers t s rs))) (bs ++ batches (answers t s rs)) (option_map (λ l. l ++ all_answered s (answers t s rs)) before)
unfolding stepped
all_stepped_is program snap t s bs before [] =
    λ i. watch (listening program snap t s) (sym (append-nil bs) i) (no_more before i)
all_stepped_is program snap t s bs before (r ∷ rs) =
    let e : Event = answer t s r in
    all_stepped_is program snap t (next s e) (bs ++ batch_in e) (with_answer (answered s e) before) rs
    ∙ (λ i. watch (listening program snap t (run s (answers t s (r ∷ rs))))
    (append_assoc bs (batch_in e) (batches (answers t (next s e) rs)) i)
    (answers_join before (answered s e) (all_answered (next s e) (answers t (next s e) rs)) i))
