use Rattle.std.proofs.Common.{◌++◌, ◌≤◌, ◌⊎◌, List, ℕ, arith, inl, inr, length, take, sym, ap, subst, ◌∙◌, take-append-drop}
use Rattle.std.proofs.lemmas.Result.{err_from_is_err_and}
use Rattle.std.specs.Io.KnownBytes.{Consumes, IsAtEnd}
use Rattle.savefile.specs.Ahead.{waiting_in}
use Rattle.savefile.specs.Savefile.{IsHeader}
use Rattle.savefile.proofs.Pieces.{refused_whole, IsSavefile-header}
use Rattle.savefile.proofs.reader.read_header.Goals as goal

pub returns-in_err-header-clause-err : goal.returns-in_err-header-clause-err
returns-in_err-header-clause-err g c =
    let told = err_from_is_err_and c.from_residual-in_err-header.result c.from_residual-in_err-header.ensures.1 in
    let waiting = waiting_in c.fill.new.self in
    let left = g.R.Source.left c.fill.new.self.source in
    let enough : (24 ≤ length waiting) ⊎ IsAtEnd left = elim c.in_ok-fill.ensures.enough [ inl many ↦ inl (omega (arith, many)) | inr end ↦ inr end ] in
    rw (told.1, told.2) (
      c.in_ok-fill.ensures.grows,
      inr (refused_whole c.waiting.result.now waiting left _ c.waiting.ensures.value enough c.in_err-header.ensures.err),
    )

pub returns-clause-ok : goal.returns-clause-ok
returns-clause-ok g c =
    let grows = c.in_ok-fill.ensures.grows in
    let text = waiting_in c.fill.new.self in
    let h = c.in_ok-header.header in (
      grows.0,
      take 24 text,
      subst (λ (s : g.row.R.Denot). Consumes (g.R.Source.left c.args.ahead.now.source) (g.R.Source.left s) grows.0) (sym c.pass.ensures.source) grows.2,
      sym grows.1 ∙ sym (take-append-drop 24 text) ∙ ap (λ (t : List ℕ). take 24 text ++ t) (sym c.pass.ensures.waiting),
      IsSavefile-header text h.order h.unit h.snap (subst (λ (t : List ℕ). IsHeader h.order t h.unit h.snap) c.waiting.ensures.value c.in_ok-header.ensures.ok),
    )
