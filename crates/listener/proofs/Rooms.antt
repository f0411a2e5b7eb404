-- The room that messages take.
use Rattle.std.proofs.Common.{◌≡◌, ℕ, ◌+◌, ◌*◌, ◌<◌, ◌≤◌, Bool, true, false, List, [], ◌∷◌, ◌++◌, length, take, min, nat_lt, refl, arith, length-take}
use Rattle.std.proofs.lemmas.List.Sums.{sum_by_push, sum_by-cons}
use Rattle.bpfvm.specs.declared.insn.Insn.{Insn}
use Rattle.bpfvm.specs.Machine.{verdict}
use Rattle.listener.specs.declared.message.Message.{Message}
use Rattle.listener.specs.Laws.{FitsIn}
use Rattle.listener.specs.Messages.{Arrival, kept_by, size, size_of, room}
use Rattle.listener.specs.PlainList.{Arrive}

pub room_nil : room [] ≡ 0
unfolding room
room_nil = refl

pub room_push : (ms : List Message) (m : Message) → room (ms ++ m ∷ []) ≡ room ms + size_of m
unfolding room
room_push ms m = sum_by_push size_of ms m

pub room_cons : (m : Message) (ms : List Message) → room (m ∷ ms) ≡ size_of m + room ms
unfolding room
room_cons m ms = sum_by-cons size_of m ms

pub size_of_is : (m : Message) → size_of m ≡ size (length m.bytes)
unfolding size_of
size_of_is m = refl

-- a record has its fields at least
pub size_least : (m : Message) → 32 ≤ size_of m
size_least m = omega (arith, size_of_is m)

-- each message takes 32 bytes at least
pub room_least : (ms : List Message) → 32 * length ms ≤ room ms
room_least [] = omega arith
room_least (m ∷ ms) = omega (arith, room_cons m ms, size_least m, room_least ms)

-- messages take room
pub room_some : (ms : List Message) → 0 < length ms → 0 < room ms
room_some ms h = omega (arith, room_least ms)

-- only messages take room
pub room_nonempty : (ms : List Message) → 0 < room ms → 0 < length ms
room_nonempty [] h = absurd (omega (arith, room_nil))
room_nonempty (m ∷ ms) h = omega arith

size_mono : (a b : ℕ) → a ≤ b → size a ≤ size b
size_mono a b h = omega arith

-- what a filter keeps fits, by whether it accepts
fits_by : (program : List Insn) (snap capacity : ℕ) (a : Arrival) → size snap ≤ capacity → (b : Bool)
    → nat_lt 0 (verdict program a.packet.bytes a.packet.len) ≡ b → FitsIn capacity (Arrive (kept_by program snap a))
unfolding kept_by size_of
fits_by program snap capacity a h true e =
    let n : ℕ = min (verdict program a.packet.bytes a.packet.len) snap in
    let l : length (take n a.packet.bytes) ≤ snap = omega (arith, length-take n a.packet.bytes) in
    let m : size (length (take n a.packet.bytes)) ≤ capacity = omega (arith, size_mono (length (take n a.packet.bytes)) snap l) in
    rw e m
fits_by program snap capacity a h false e = rw e tt

-- what a filter keeps of an arrival fits a capacity that has room for a snapshot length
pub kept_fits : (program : List Insn) (snap capacity : ℕ) (a : Arrival) → size snap ≤ capacity
    → FitsIn capacity (Arrive (kept_by program snap a))
kept_fits program snap capacity a h =
    fits_by program snap capacity a h (nat_lt 0 (verdict program a.packet.bytes a.packet.len)) refl
