-- Batches and buffers, one more.
use Rattle.std.proofs.Common.{◌≡◌, List, [], ◌∷◌, ◌++◌, true, refl, ap, sym, ◌∙◌}
use Rattle.std.proofs.lemmas.List.{append-nil, append_assoc, map-append}
use Rattle.listener.specs.Buffers.{Filled}
use Rattle.listener.specs.Laws.{joined}
use Rattle.listener.specs.declared.message.Message.{Message}
use Rattle.handover.specs.declared.calls.Take.{Take}
use Rattle.handover.specs.declared.calls.Take.TheVariants.{Full, Nothing, Ended}
use Rattle.handover.specs.History.{batches_of, ended_in}
use Rattle.replay.specs.Reading.{messages_of}

batches-append : (ts us : List Take) → batches_of (ts ++ us) ≡ batches_of ts ++ batches_of us
batches-append [] us = refl
batches-append (Full b ∷ ts) us = ap (λ xs. b ∷ xs) (batches-append ts us)
batches-append (Nothing ∷ ts) us = batches-append ts us
batches-append (Ended ∷ ts) us = batches-append ts us

-- a read of nothing takes no batch
pub batches_nothing : (ts : List Take) → batches_of (ts ++ Nothing ∷ []) ≡ batches_of ts
batches_nothing ts = batches-append ts (Nothing ∷ []) ∙ append-nil (batches_of ts)

pub batches_ended : (ts : List Take) → batches_of (ts ++ Ended ∷ []) ≡ batches_of ts
batches_ended ts = batches-append ts (Ended ∷ []) ∙ append-nil (batches_of ts)

-- a batch that is pushed goes after the others
pub pushes_batch : (bs : List Filled) (b : Filled) (ts : List Take) → messages_of bs ≡ batches_of ts → messages_of (bs ++ b ∷ []) ≡ batches_of (ts ++ Full b.messages ∷ [])
pushes_batch bs b ts so_far =
    map-append (λ (x : Filled). x.messages) bs (b ∷ []) ∙ ap (λ xs. xs ++ b.messages ∷ []) so_far ∙ sym (batches-append ts (Full b.messages ∷ []))

-- a read that found the end stands in the list
pub ended_found : (ts : List Take) → ended_in (ts ++ Ended ∷ []) ≡ true
ended_found [] = refl
ended_found (Full b ∷ ts) = ended_found ts
ended_found (Nothing ∷ ts) = ended_found ts
ended_found (Ended ∷ ts) = refl

joined-append : (xs ys : List (List Message)) → joined (xs ++ ys) ≡ joined xs ++ joined ys
joined-append [] ys = refl
joined-append (x ∷ xs) ys = ap (λ zs. x ++ zs) (joined-append xs ys) ∙ sym (append_assoc x (joined xs) (joined ys))

-- the messages of one buffer more come after the others
pub joins_buffer : (bs : List Filled) (b : Filled) → joined (messages_of (bs ++ b ∷ [])) ≡ joined (messages_of bs) ++ b.messages
joins_buffer bs b =
    ap joined (map-append (λ (x : Filled). x.messages) bs (b ∷ [])) ∙ joined-append (messages_of bs) (b.messages ∷ [])
    ∙ ap (λ xs. joined (messages_of bs) ++ xs) (append-nil b.messages)

pub joins_buffers : (bs cs : List Filled) → joined (messages_of (bs ++ cs)) ≡ joined (messages_of bs) ++ joined (messages_of cs)
joins_buffers bs cs = ap joined (map-append (λ (x : Filled). x.messages) bs cs) ∙ joined-append (messages_of bs) (messages_of cs)
