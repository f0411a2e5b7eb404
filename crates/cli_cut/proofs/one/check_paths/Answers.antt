use Rattle.std.proofs.Common.{ℕ, List, Bor, arith, option_copied, subst}
use Rattle.cli_files.specs.declared.paths.Opening.TheVariants.{First}
use Rattle.cli_store.specs.Files.{IsApart}
use Rattle.cli_cut.proofs.Whole.{listing_apart, shared_one}
use Rattle.cli_cut.proofs.one.check_paths.Goals as goal

pub returns-in-Ok-clause-apart : goal.returns-in-Ok-clause-apart
returns-in-Ok-clause-apart g c tells = c.in-Ok.ensures.apart tells 0 c.args.words.now.output (omega arith) 1 c.args.input (omega arith)

pub returns-in-Ok-clause-spares : goal.returns-in-Ok-clause-spares
returns-in-Ok-clause-spares g c tells =
    let place = g.F.FileStore.place c.args.files.now in
    let text = g.F.FileStore.text c.args.files.now in
    let words = c.args.words.now in
    listing_apart place text words.listing c.args.input words.output
    (subst (λ (l : Bor (List ℕ)). IsApart First place text words.output.now l.now) c.unwrap_or.ensures (c.in-Ok.ensures.apart tells 0 words.output (omega arith) 0 c.unwrap_or.result (omega arith)))
