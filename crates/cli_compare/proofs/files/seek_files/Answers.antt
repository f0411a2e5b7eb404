use Rattle.std.proofs.Common.{◌≡◌, ℕ, List, Option, Bor, refl, sym, subst}
use Rattle.cli_answers.proofs.Closing.{fresh, seeks-broke}
use Rattle.cli_compare.specs.Comparing.{Seeks}
use Rattle.cli_compare.specs.Pairs.{differs}
use Rattle.cli_compare.proofs.files.seek_files.Goals as goal

pub returns-clause-seeks : goal.returns-clause-seeks
returns-clause-seeks g c tells =
    let F = g.F.FileStore in
    let left = g.F.Input.Source.left in
    let failures = g.F.Input.Source.failures in
    let old = c.args.files.now in
    let words = c.args.words.now in
    let asked = c.in_ok-pair.field-0 in
    let call = c.find_in_captures-sources in
    let asks = c.in_ok-pair.ensures.asks tells in
    record {
      asked = asked;
      asks = asks;
      sought = call.result;
      seeks = call.ensures;
      found = refl;
      broke = λ n device. c.close_captures-noted.ensures.failed tells (seeks-broke left failures (differs asked.pair) asked.captures.items call.result n
          (fresh left failures (F.place old) (F.text old) words.inputs.items asked.captures.items asks.captures) call.ensures device);
    }
