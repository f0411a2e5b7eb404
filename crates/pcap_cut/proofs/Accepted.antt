-- What a program accepts of some packets and of more.
use Rattle.std.proofs.Common.{◌≡◌, ℕ, ◌<◌, ◌+◌, Bool, true, false, if◌then◌else◌, List, [], ◌∷◌, ◌++◌, length, length-append, take, drop, min, refl, ap, ◌∙◌, sym, map, filter, get_or, lt-ltb, arith}
use Rattle.std.proofs.lemmas.List.{map-append, take_min, take_more, take-append-drop}
use Rattle.std.proofs.lemmas.List.Elements.{filter-append}
use Rattle.savefile.specs.declared.packet.Packet.{Packet}
use Rattle.savefile.specs.Savefile.{packet}
use Rattle.bpfvm.specs.declared.insn.Insn.{Insn}
use Rattle.pcap_cut.specs.declared.cut.Tally.{Tally}
use Rattle.pcap_cut.specs.Cut.{answer, accepts, cut_packet, accepted}
use Rattle.pcap_cut.specs.Outcome.{tallied, IsTally}

-- nothing is accepted of nothing
pub accepted-nil : (program : List Insn) (snap : ℕ) → accepted program snap [] ≡ []
unfolding accepted
accepted-nil program snap = refl

-- what is accepted of more packets goes on with what is accepted of those
pub accepted-append : (program : List Insn) (snap : ℕ) (ps qs : List Packet) →
    accepted program snap (ps ++ qs) ≡ accepted program snap ps ++ accepted program snap qs
unfolding accepted
accepted-append program snap ps qs =
    let f : Packet → Packet = λ p. cut_packet (min (answer program p) snap) p in
    ap (map f) (filter-append (accepts program) ps qs) ∙ map-append f (filter (accepts program) ps) (filter (accepts program) qs)

-- one packet more
pub accepted-more : (program : List Insn) (snap : ℕ) (ps : List Packet) (i : ℕ) (p : Packet) → i < length ps → p ≡ get_or ps i p →
    accepted program snap (take (i + 1) ps) ≡ accepted program snap (take i ps) ++ accepted program snap (p ∷ [])
accepted-more program snap ps i p below here =
    ap (accepted program snap) (take_more ps i p below ∙ ap (λ (q : Packet). take i ps ++ q ∷ []) (sym here))
    ∙ accepted-append program snap (take i ps) (p ∷ [])

-- a packet that is rejected
pub accepted-rejected : (program : List Insn) (snap : ℕ) (p : Packet) → answer program p ≡ 0 →
    accepted program snap (p ∷ []) ≡ []
unfolding accepted
accepted-rejected program snap p rejects = rw rejects refl

-- a packet that is accepted, as the code cuts it
pub accepted-kept : (program : List Insn) (snap : ℕ) (p : Packet) (kept : List ℕ) → 0 < answer program p →
    kept ≡ take (min (min (answer program p) snap) (length p.bytes)) p.bytes →
    accepted program snap (p ∷ []) ≡ packet p.sec p.nanos p.len kept ∷ []
unfolding accepted
accepted-kept program snap p kept accepts-it is =
    rw (lt-ltb _ _ accepts-it)
    (ap (λ (bytes : List ℕ). packet p.sec p.nanos p.len bytes ∷ []) (sym (take_min (min (answer program p) snap) p.bytes) ∙ sym is))

-- the packets so far, one more, and the others
pub accepted-split : (program : List Insn) (snap : ℕ) (ps : List Packet) (i : ℕ) (p : Packet) → i < length ps → p ≡ get_or ps i p →
    accepted program snap ps ≡ (accepted program snap (take i ps) ++ accepted program snap (p ∷ [])) ++ accepted program snap (drop (i + 1) ps)
accepted-split program snap ps i p below here =
    ap (accepted program snap) (sym (take-append-drop (i + 1) ps))
    ∙ accepted-append program snap (take (i + 1) ps) (drop (i + 1) ps)
    ∙ ap (λ (qs : List Packet). qs ++ accepted program snap (drop (i + 1) ps)) (accepted-more program snap ps i p below here)

-- one packet more is counted, where the program accepts it too
pub tally-more : (program : List Insn) (ps : List Packet) (p : Packet) (old new : Tally) → new ≡ tallied (accepts program p) old →
    IsTally program ps old → IsTally program (ps ++ p ∷ []) new
tally-more program ps p old new is counted = by_test (accepts program p) refl is
  where
    kept : length (filter (accepts program) (ps ++ p ∷ [])) ≡ length (filter (accepts program) ps) + length (filter (accepts program) (p ∷ []))
    kept = ap length (filter-append (accepts program) ps (p ∷ [])) ∙ length-append (filter (accepts program) ps) (filter (accepts program) (p ∷ []))

    one : length (ps ++ p ∷ []) ≡ length ps + 1
    one = length-append ps (p ∷ [])

    by_test : (b : Bool) → accepts program p ≡ b → new ≡ tallied b old → IsTally program (ps ++ p ∷ []) new
    by_test true here told = record {
      read = ap (λ (t : Tally). t.read) told ∙ ap (λ n. n + 1) counted.read ∙ sym one;
      written = ap (λ (t : Tally). t.written) told ∙ ap (λ n. n + 1) counted.written
          ∙ sym (kept ∙ ap (λ (b : Bool). length (filter (accepts program) ps) + length (if b then p ∷ [] else [])) here);
    }
    by_test false here told = record {
      read = ap (λ (t : Tally). t.read) told ∙ ap (λ n. n + 1) counted.read ∙ sym one;
      written = ap (λ (t : Tally). t.written) told ∙ counted.written
          ∙ sym (kept ∙ ap (λ (b : Bool). length (filter (accepts program) ps) + length (if b then p ∷ [] else [])) here ∙ omega arith);
    }
