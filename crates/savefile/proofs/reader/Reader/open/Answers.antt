use Rattle.std.proofs.Common.{◌≡◌, ◌<◌, ◌++◌, List, ℕ, inl, inr, length, sym, ap, subst, refl, ◌∙◌}
use Rattle.std.specs.Io.KnownBytes.{Consumes}
use Rattle.savefile.specs.Ahead.{waiting_in}
use Rattle.savefile.specs.Savefile.{RefusesHeader}
use Rattle.savefile.proofs.Given.{passed_first, told_whole}
use Rattle.savefile.proofs.reader.Reader.open.Goals as goal

pub returns-in-Ok-read_header-clause-ok : goal.returns-in-Ok-read_header-clause-ok
returns-in-Ok-read_header-clause-ok g c =
    let (more, text, consumes, is, savefile) = c.in-Ok-read_header.ensures.ok in
    let first : more ≡ text ++ waiting_in c.read_header.new.ahead = ap (λ (t : List ℕ). t ++ more) (sym c.in-Ok.ensures.nothing) ∙ is in
    record {
      text = text;
      reads = savefile;
      still_to_pass = passed_first _ _ more text (waiting_in c.read_header.new.ahead) (subst (λ (s : g.row.R.Denot). Consumes (g.R.Source.left s) (g.R.Source.left c.read_header.new.ahead.source) more) c.in-Ok.ensures.source consumes) first;
      told = refl;
      counts = refl;
      goes_on = (refl, refl);
    }

pub returns-in-Ok-read_header-clause-taken : goal.returns-in-Ok-read_header-clause-taken
returns-in-Ok-read_header-clause-taken g c =
    let (more, text, consumes, is, savefile) = c.in-Ok-read_header.ensures.ok in
    (more, subst (λ (s : g.row.R.Denot). Consumes (g.R.Source.left s) (g.R.Source.left c.read_header.new.ahead.source) more) c.in-Ok.ensures.source consumes)

pub returns-in-Err-read_header-clause-refused : goal.returns-in-Err-read_header-clause-refused
returns-in-Err-read_header-clause-refused g c =
    let (grows, why) = c.in-Err-read_header.ensures.err in
    let waiting = waiting_in c.read_header.new.ahead in
    let first : waiting ≡ grows.0 = grows.1 ∙ ap (λ (t : List ℕ). t ++ grows.0) c.in-Ok.ensures.nothing in
    let consumes = subst (λ (s : g.row.R.Denot). Consumes (g.R.Source.left s) (g.R.Source.left c.read_header.new.ahead.source) grows.0) c.in-Ok.ensures.source grows.2 in
    elim why [
      | inl device ↦ inr (inl device.0)
      | inr r ↦ inl (record {
        text = grows.0 ++ r.0;
        told = told_whole _ _ grows.0 r.0 consumes r.1;
        refused = subst (λ (t : List ℕ). RefusesHeader (t ++ r.0) c.in-Err-read_header.fault) first r.2;
      })
    ]

pub returns-in-Err-read_header-clause-taken : goal.returns-in-Err-read_header-clause-taken
returns-in-Err-read_header-clause-taken g c =
    let (grows, why) = c.in-Err-read_header.ensures.err in
    let waiting = waiting_in c.read_header.new.ahead in
    let first : waiting ≡ grows.0 = grows.1 ∙ ap (λ (t : List ℕ). t ++ grows.0) c.in-Ok.ensures.nothing in
    let consumes = subst (λ (s : g.row.R.Denot). Consumes (g.R.Source.left s) (g.R.Source.left c.read_header.new.ahead.source) grows.0) c.in-Ok.ensures.source grows.2 in (
      grows.0,
      subst (λ (s : g.row.R.Denot). Consumes (g.R.Source.left c.args.source) (g.R.Source.left s) grows.0) (sym c.into_source.ensures) consumes,
      λ told. elim why [
        | inl device ↦ subst (λ (t : List ℕ). length t < 24) first device.1
        | inr r ↦ absurd (subst (RefusesHeader (waiting ++ r.0)) told r.2)
      ],
    )
