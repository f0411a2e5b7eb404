use Rattle.std.proofs.Common.{[], ◌≡◌, ◌+◌, None, length, List, ◌∷◌, reverse, ap, sym, ◌∙◌, subst}
use Rattle.std.proofs.lemmas.List.{reverse-append}
use Rattle.bpfvm.specs.declared.insn.Insn.{Insn}
use Rattle.bpfvm.specs.Validity.{fault_of}
use Rattle.filtergen_trim.specs.Sound.{IsSoundCode}
use Rattle.filtergen_trim.proofs.Growing.{sound-grown}
use Rattle.filtergen_code.proofs.code.Code.emit.Goals as goal

pub invariant_of-self : goal.invariant_of-self
invariant_of-self c =
    let old = reverse c.self.inside.insns.items in
    let grown : c.args.insn ∷ old ≡ reverse c.push.new.self.items = sym (ap reverse c.push.ensures.items ∙ reverse-append c.self.inside.insns.items (c.args.insn ∷ [])) in
    let is : c.args.self.now ≡ old = sym c.self.view_is in
    let sound = subst (λ (l : List Insn). fault_of (length l + 1) 0 c.args.insn ≡ None) is c.requires.sound in
    subst IsSoundCode grown (sound-grown c.args.insn old c.self.invariant sound)
