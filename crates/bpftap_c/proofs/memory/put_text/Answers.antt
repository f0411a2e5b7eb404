use Rattle.std.proofs.Common.{◌≡◌, ◌+◌, ◌∷◌, ◌++◌, inl, List, ℕ, length, drop, slice_set, sym, subst}
use Rattle.bpftap_c.proofs.EndedText.{ended}
use Rattle.bpftap_c.proofs.memory.put_text.Goals as goal

pub returns : goal.returns
returns c =
    let text = c.args.text.now in
    let old = c.args.to.now in
    inl (
      c.done.ensures,
      c.if-to-size.false,
      subst (λ (front : List ℕ). slice_set (front ++ drop (length text) old) (length text) 0 ≡ text ++ 0 ∷ drop (length text + 1) old)
          (sym c.copy_from_slice.ensures.after) (ended text old c.if-to-size.false),
    )
