-- The verdict of a program whose first instruction is an expression's entry.
use Rattle.std.proofs.Common.{◌≡◌, ℕ, List, [], ◌∷◌, length, None, refl, sym, ap, ◌∙◌, arith, if◌then◌else◌}
use Rattle.bpfvm.specs.declared.insn.Insn.{Insn}
use Rattle.bpfvm.specs.Codes.{operation_of}
use Rattle.bpfvm.specs.Machine.{Registers, Ends, effect, answer, initial, verdict}
use Rattle.filtergen_code.specs.Insns.{plain_insn}
use Rattle.filter_meaning.specs.declared.verdict.Verdict.{Verdict}
use Rattle.filter_meaning.specs.declared.verdict.Verdict.TheVariants.{Yes, No, Abort}
use Rattle.filter_meaning.specs.Meaning.{Packet, meaning, is_yes}
use Rattle.filter_tree.specs.Trees.{Tree}
use Rattle.filtergen_code.specs.Compiling.{StandsFor}
use Rattle.filtergen_code.specs.declared.entries.Entry.{Entry}
use Rattle.filtergen_code.specs.Emission.{run_from, Answers, outcome, IsRelay}
use Rattle.filtergen_facts.specs.declared.packet_facts.PacketFacts.TheVariants as known
use Rattle.filtergen_code.specs.Entries.{DecidesGiven}
use Rattle.filtergen_code.proofs.Leading.{serves-any}
use Rattle.filtergen_code.proofs.Runs.{answer-first, front-place}

abbrev pub returns_of : ℕ → List Insn
returns_of snap = plain_insn 6 snap ∷ plain_insn 6 0 ∷ []

return-effect : (n : ℕ) (p : Packet) (r : Registers) → effect p.captured p.wire (plain_insn 6 n) r ≡ Ends n
unfolding effect operation_of
return-effect n p r = refl

accepting : (snap : ℕ) (p : Packet) → Answers (returns_of snap) 2 p snap
accepting snap p = record { always = λ r cells. answer-first (plain_insn 6 snap) (plain_insn 6 0 ∷ []) p r (Ends snap) (return-effect snap p r) }

rejecting : (snap : ℕ) (p : Packet) → Answers (returns_of snap) 1 p 0
unfolding answer
rejecting snap p = record { always = λ r cells. answer-first (plain_insn 6 0) [] p r (Ends 0) (return-effect 0 p r) }

by_verdict : (v : Verdict) (snap : ℕ) → outcome v snap 0 ≡ (if is_yes v then snap else 0)
by_verdict Yes snap = refl
by_verdict No snap = refl
by_verdict Abort snap = refl

abbrev pub way_to : ℕ → Entry
way_to place = record { any = place; ip = place; other = place; first_fragment = place; transport = None }

pub stands : (t : Tree) (snap most near : ℕ) (entry : Entry) (old mid program : List Insn) → old ≡ returns_of snap
    → DecidesGiven known.Nothing most (meaning t) (record { yes = way_to 2; no = way_to 1 }) entry old mid → IsRelay entry.any 0 near mid program → StandsFor program t snap
unfolding verdict
stands t snap most near entry old mid program is decides nears p bytes =
    let at : near ≡ length program = omega (arith, nears.here, nears.reached) in
    let yes' : Answers old 2 p snap = rw is (accepting snap p) in
    let no' : Answers old 1 p 0 = rw is (rejecting snap p) in
    let found = decides.decides p snap 0 bytes (serves-any old 2 snap p yes') (serves-any old 1 0 p no') in
    sym (ap (λ n. run_from program n p initial) at ∙ front-place program p initial)
    ∙ nears.leads p initial
    ∙ found.serves.any.always initial refl
    ∙ found.right refl
    ∙ by_verdict (meaning t p) snap
