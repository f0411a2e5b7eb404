use Rattle.std.proofs.Common.{◌≢◌, ◌∙◌, ℕ, List, Bor, All, arith, subst}
use Rattle.cli_cut.specs.Captures.{listing_path}
use Rattle.cli_cut.proofs.Several.{all_front, shared_all, spares_all}
use Rattle.cli_cut.proofs.captures.check_paths.Goals as goal

pub returns-in-Ok-check_apart-clause-apart : goal.returns-in-Ok-check_apart-clause-apart
returns-in-Ok-check_apart-clause-apart g c tells =
    let place = g.F.FileStore.place c.args.files.now in
    let words = c.args.words.now in
    let P : Bor (List ℕ) → Type 0 = λ input. place input.now ≢ place words.output.now in
    all_front P words.inputs.items (listing_path words.listing)
    (subst (All P) (c.as_slice.ensures.value ∙ c.in-Ok.ensures) (c.in-Ok-check_apart.ensures.apart tells 0 words.output (omega arith)))

pub returns-in-Ok-check_apart-clause-spares : goal.returns-in-Ok-check_apart-clause-spares
returns-in-Ok-check_apart-clause-spares g c tells =
    let place = g.F.FileStore.place c.args.files.now in
    let words = c.args.words.now in
    let P : Bor (List ℕ) → Type 0 = λ path. place path.now ≢ place words.output.now in
    spares_all place words (subst (All P) (c.as_slice.ensures.value ∙ c.in-Ok.ensures) (c.in-Ok-check_apart.ensures.apart tells 0 words.output (omega arith)))

pub returns-clause-refused : goal.returns-clause-refused
returns-clause-refused g c tells =
    shared_all (g.F.FileStore.place c.args.files.now) (g.F.FileStore.printed c.args.files.now) (g.F.FileStore.failed c.check_apart.new.self) (g.F.FileStore.denied c.check_apart.new.self) c.args.words.now c.as_slice.result.now c.in-Err.fault
    (c.as_slice.ensures.value ∙ c.in-Ok.ensures) (c.in-Err.ensures.fault tells) (c.in-Err.ensures.denied tells)
