use Rattle.std.proofs.Common.{◌++◌, inl, length, map, drop, sym, ap, ◌∙◌, arith}
use Rattle.std.proofs.lemmas.List.{map-append, drop-map, length-map}
use Rattle.bpftap_c.specs.Insns.{insn_of}
use Rattle.bpftap_c.proofs.insns.put_insns.Goals as goal

pub returns : goal.returns
returns c =
    let size = length c.args.insns.now in
    let old = c.args.to.now in
    let fits = c.if-to-size.false in
    inl (
      c.done.ensures,
      omega (arith, fits, length-map old insn_of),
      map-append insn_of c.fill_insns.new.to (drop size old) ∙ ap (λ front. front ++ map insn_of (drop size old)) c.fill_insns.ensures
          ∙ ap (λ rest. c.args.insns.now ++ rest) (sym (drop-map insn_of size old)),
    )
