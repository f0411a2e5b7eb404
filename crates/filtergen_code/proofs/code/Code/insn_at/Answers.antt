use Rattle.std.proofs.Common.{◌≡◌, ◌≤◌, ◌-◌, ◌∙◌, length, reverse, get_or, Some, sym, ap, arith, List, ℕ, ◌<◌}
use Rattle.std.specs.List.{slice_get}
use Rattle.std.proofs.lemmas.List.{length-reverse}
use Rattle.bpfvm.specs.declared.insn.Insn.{Insn}
use Rattle.filtergen_code.proofs.Runs.{insn_of, insn-there}
use Rattle.filtergen_code.proofs.Beyond.{fails-inside}
use Rattle.filtergen_code.proofs.code.Code.insn_at.Goals as goal

-- the buffer's instruction at a place
there : (items found : List Insn) (place : ℕ) → 0 < place → place ≤ length items → found ≡ items → slice_get (reverse items) (length (reverse items) - place) ≡ Some (get_or found (place - 1) (insn_of 0 0 0 0))
there items found place some within same = insn-there (insn_of 0 0 0 0) place items some within ∙ ap (λ (l : _). Some (get_or l (place - 1) (insn_of 0 0 0 0))) (sym same)

pub returns-clause-here : goal.returns-clause-here
returns-clause-here c =
    let items = c.self.inside.insns.items in
    let is : c.args.self.now ≡ reverse items = sym c.self.view_is in
    let within : c.args.place ≤ length items = omega (arith, c.requires.1, ap length is, length-reverse items) in
    rw is (there items c.as_slice.result.now c.args.place c.requires.0 within c.as_slice.ensures.value)

pub returns-clause-jump : goal.returns-clause-jump
returns-clause-jump c = λ jump.
    let items = c.self.inside.insns.items in
    let is : c.args.self.now ≡ reverse items = sym c.self.view_is in
    let within : c.args.place ≤ length items = omega (arith, c.requires.1, ap length is, length-reverse items) in
    fails-inside c.args.place (reverse items) _ c.self.invariant (c.requires.0, omega (arith, within, length-reverse items))
    (there items c.as_slice.result.now c.args.place c.requires.0 within c.as_slice.ensures.value) jump
