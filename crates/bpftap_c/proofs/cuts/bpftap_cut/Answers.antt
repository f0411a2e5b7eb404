use Rattle.std.proofs.Common.{rules, ◌≡◌, true, inl, Some, refl, sym, ap, subst, ◌∙◌}
use Rattle.bpftap_c.specs.Cuts.{ended, is_whole}
use Rattle.bpftap_c.proofs.FoundCut.{found_cut, WasCut}
use Rattle.bpftap_c.proofs.cuts.bpftap_cut.Goals as goal

pub returns : goal.returns
returns c =
    let capture = c.args.capture.now in
    let cut = c.cut-cut_end.result in
    let found = c.as_slice.result.now in
    let whole : is_whole cut.end ≡ true = search rules in
    let same : found ≡ cut.sink.inner.items = search rules in
    let was = subst (λ program. WasCut capture program c.args.snap found cut.end) c.in-Ok.ensures.ok
    (found_cut _ _ _ _ _ _ _ _ cut capture found c.in-Ok-header_of.header.snap c.in-Ok-header_of.ensures.ok c.cut-cut_end.ensures.cuts whole refl
    (ap Some (ap (λ v. v.items) c.new-sink.ensures.inner ∙ c.new.ensures.items)) (ap Some (sym same))) in
    inl (
      c.in-Ok.ensures.valid.0 refl,
      found,
      was.0,
      c.put_bytes-told.result,
      was.1,
      c.put_bytes-told.ensures,
      c.ended.ensures ∙ ap (ended c.put_bytes-told.result) was.2,
    )
