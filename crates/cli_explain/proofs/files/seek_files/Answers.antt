use Rattle.std.proofs.Common.{◌≡◌, ℕ, List, Option, Bor, refl, sym, subst, option_copied}
use Rattle.cli_answers.specs.Asked.{IsAsked}
use Rattle.cli_answers.specs.Seeking.{accepts}
use Rattle.cli_answers.proofs.Closing.{fresh, seeks-broke}
use Rattle.cli_explain.specs.Explaining.{Seeks}
use Rattle.cli_explain.proofs.files.seek_files.Goals as goal

pub returns-clause-seeks : goal.returns-clause-seeks
returns-clause-seeks g c tells =
    let F = g.F.FileStore in
    let left = g.F.Input.Source.left in
    let failures = g.F.Input.Source.failures in
    let old = c.args.files.now in
    let words = c.args.words.now in
    let asked = c.in_ok-filter.field-0 in
    let call = c.find_in_captures-sources in
    let asks = subst (λ (paths : List (Bor (List ℕ))). IsAsked left failures (F.place old) (F.text old) (F.printed old) (option_copied words.listing) (option_copied words.expr) paths asked)
    c.as_slice-paths.ensures.value (c.in_ok-filter.ensures.asks tells) in
    record {
      asked = asked;
      asks = asks;
      sought = call.result;
      seeks = call.ensures;
      found = refl;
      broke = λ n device. c.close_captures-noted.ensures.failed tells (seeks-broke left failures (accepts asked.filter) asked.captures.items call.result n
          (fresh left failures (F.place old) (F.text old) words.inputs.items asked.captures.items asks.captures) call.ensures device);
    }
