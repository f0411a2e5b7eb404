-- Messages whose time has less than a second of nanoseconds.
use Rattle.std.proofs.Common.{◌≡◌, ℕ, suc, ◌+◌, Bool, true, false, List, [], ◌∷◌, ◌++◌, All, Contains, Some, None, map, min, refl, ap, ◌∙◌, arith, if◌then◌else◌}
use Rattle.std.proofs.lemmas.List.Elements.{All-append, All-cons, All-head, All-nil, All-tail}
use Rattle.bpfvm.specs.declared.insn.Insn.{Insn}
use Rattle.listener.specs.LookingBack.{accepted, all_accepted}
use Rattle.listener.specs.Messages.{Arrival, cut_to, kept_by}
use Rattle.listener.specs.PlainList.{Request, Arrive, Flush}
use Rattle.listener.specs.declared.message.Message.{Message}
use Rattle.savefile.specs.Savefile.{IsWritable, packet}
use Rattle.savefile.specs.declared.packet.Packet.{Packet}
use Rattle.replay.specs.Captures.{arrivals_from}
use Rattle.replay.specs.Playing.{Asking, asked, asked_from, is_due}
use Rattle.replay.specs.Reports.{packet_of}
use Rattle.replay.specs.Writing.{IsTimely, as_written}

-- such a message is written as it is
as-it-is : (m : Message) → IsTimely m.nanos → as_written m ≡ packet_of m
as-it-is m below = ap (λ n. packet m.sec n m.len m.bytes) (let e : min m.nanos 999999999 ≡ m.nanos = omega (arith, below) in e)

pub as-they-are : (ms : List Message) → All (λ (m : Message). IsTimely m.nanos) ms → map as_written ms ≡ map packet_of ms
as-they-are [] h = refl
as-they-are (m ∷ ms) h =
    ap (λ p. p ∷ map as_written ms) (as-it-is m (All-head (λ (m : Message). IsTimely m.nanos) m ms h))
    ∙ ap (λ ps. packet_of m ∷ ps) (as-they-are ms (All-tail (λ (m : Message). IsTimely m.nanos) m ms h))

-- what each list has in it is said of each of its messages
pub all-of-contained : {X : Type 0} (P : X → Type 0) (xs : List X) → ((x : X) → Contains xs x → P x) → All P xs
all-of-contained P [] h = All-nil P
all-of-contained P (x ∷ xs) h =
    All-cons P x xs (h x (0, omega arith, refl))
    (all-of-contained P xs (λ y c. h y (suc c.0, (let l = c.1 in omega (arith, l)), c.2)))

-- what a filter keeps of such a packet is such a message
kept-timely-by : (yes : Bool) (n : ℕ) (a : Arrival) → IsTimely a.packet.nanos → All (λ (m : Message). IsTimely m.nanos) (accepted (Arrive (if yes then Some (cut_to n a) else None)))
kept-timely-by true n a h = All-cons (λ (m : Message). IsTimely m.nanos) (cut_to n a) [] h (All-nil (λ (m : Message). IsTimely m.nanos))
kept-timely-by false n a h = All-nil (λ (m : Message). IsTimely m.nanos)

kept-timely : (program : List Insn) (snap : ℕ) (a : Arrival) → IsTimely a.packet.nanos → All (λ (m : Message). IsTimely m.nanos) (accepted (Arrive (kept_by program snap a)))
unfolding kept_by
kept-timely program snap a h = kept-timely-by _ _ a h

flush-accepts-none : (due : Bool) (rs : List Request) → all_accepted ((if due then Flush ∷ [] else []) ++ rs) ≡ all_accepted rs
flush-accepts-none true rs = refl
flush-accepts-none false rs = refl

-- so are all that a playlist of such packets brings
asked-timely-from : (t : Asking) (n : ℕ) (playlist : List Arrival) → All (λ (a : Arrival). IsTimely a.packet.nanos) playlist → All (λ (m : Message). IsTimely m.nanos) (all_accepted (asked_from t n playlist))
asked-timely-from t n [] h = All-nil (λ (m : Message). IsTimely m.nanos)
asked-timely-from t n (a ∷ as') h =
    rw (flush-accepts-none (is_due t.flush_every n) (asked_from t (n + 1) as'))
    (All-append (λ (m : Message). IsTimely m.nanos) (accepted (Arrive (kept_by t.program t.snap a))) (all_accepted (asked_from t (n + 1) as'))
    (kept-timely t.program t.snap a (All-head (λ (a : Arrival). IsTimely a.packet.nanos) a as' h))
    (asked-timely-from t (n + 1) as' (All-tail (λ (a : Arrival). IsTimely a.packet.nanos) a as' h)))

pub asked-timely : (t : Asking) (playlist : List Arrival) → All (λ (a : Arrival). IsTimely a.packet.nanos) playlist → All (λ (m : Message). IsTimely m.nanos) (all_accepted (asked t playlist))
asked-timely t playlist h = asked-timely-from t 0 playlist h

-- packets that can be written are such packets
pub writable-timely : (capture place : ℕ) (packets : List Packet) → All IsWritable packets → All (λ (a : Arrival). IsTimely a.packet.nanos) (arrivals_from capture place packets)
writable-timely capture place [] h = All-nil (λ (a : Arrival). IsTimely a.packet.nanos)
writable-timely capture place (p ∷ ps) h =
    All-cons (λ (a : Arrival). IsTimely a.packet.nanos) _ (arrivals_from capture (place + 1) ps) (All-head IsWritable p ps h).nanos (writable-timely capture (place + 1) ps (All-tail IsWritable p ps h))
