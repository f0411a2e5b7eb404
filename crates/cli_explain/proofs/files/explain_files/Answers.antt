use Rattle.std.proofs.Common.{◌≡◌, ℕ, List, Option, Bor, refl, sym, subst, option_copied}
use Rattle.cli_answers.specs.Asked.{IsAsked}
use Rattle.cli_answers.specs.declared.form.PacketForm.{PacketForm}
use Rattle.cli_answers.proofs.Closing.{fresh}
use Rattle.cli_answers.proofs.Totals.{has-opened, lines-handed, prints-broke}
use Rattle.cli_answers.specs.Counts.{line_of, no_counts, of_capture, plus}
use Rattle.cli_answers.specs.Lines.{PrintsTotals}
use Rattle.cli_explain.specs.Captures.{ExplainsIn, ExplainsNth}
use Rattle.cli_explain.specs.Explained.{IsBegun, IsPrinted}
use Rattle.cli_explain.specs.Explaining.{PrintsLines}
use Rattle.cli_explain.proofs.files.explain_files.Goals as goal

pub returns-clause-prints : goal.returns-clause-prints
returns-clause-prints g c tells =
    let F = g.F.FileStore in
    let left = g.F.Input.Source.left in
    let failures = g.F.Input.Source.failures in
    let contents = g.O.Write.contents in
    let old = c.args.files.now in
    let words = c.args.words.now in
    let asked = c.in_ok-filter.field-0 in
    let call = c.explain_captures-sources in
    let end = c.print_totals in
    let form = c.asked-form.result in
    let asks = subst (λ (paths : List (Bor (List ℕ))). IsAsked left failures (F.place old) (F.text old) (F.printed old) (option_copied words.listing) (option_copied words.expr) paths asked)
    c.as_slice-inputs.ensures.value (c.in_ok-filter.ensures.asks tells) in
    let sums : PrintsTotals contents (line_of form) call.result.totals call.new.out end.new.out end.result =
    record { unopened = end.ensures.none; broken = end.ensures.failed; counted = end.ensures.prints } in
    record {
      asked = asked;
      asks = asks;
      mid = call.new.out;
      explained = call.result;
      lines = subst (λ (f : PacketForm). ExplainsIn left failures contents f asked.filter asked.captures.items c.args.out.now call.new.out call.result) c.asked-form.ensures call.ensures;
      sums = subst (λ (f : PacketForm). PrintsTotals contents (line_of f) call.result.totals call.new.out end.new.out end.result) c.asked-form.ensures sums;
      counts = refl;
      read = refl;
      broke = λ n device. c.close_captures-noted.ensures.failed tells (prints-broke left failures no_counts plus (ExplainsNth left contents form asked.filter) asked.captures.items c.args.out.now call.new.out call.result n
          (fresh left failures (F.place old) (F.text old) words.inputs.items asked.captures.items asks.captures) call.ensures device);
    }

pub returns-clause-handed_on : goal.returns-clause-handed_on
returns-clause-handed_on g c none read printed =
    let call = c.explain_captures-sources in
    let end = c.print_totals in
    let left = g.F.Input.Source.left in
    let contents = g.O.Write.contents in
    let asked = c.in_ok-filter.field-0 in
    let form = c.asked-form.result in
    lines-handed left g.F.Input.Source.failures no_counts plus (ExplainsNth left contents form asked.filter) (λ n from old new e. has-opened left from no_counts (IsPrinted (of_capture form n) asked.filter) (IsBegun (of_capture form n) asked.filter) (contents old) (contents new) e)
    contents (line_of form) g.O.PrintSink.waits asked.captures.items c.args.out.now call.new.out end.new.out call.result end.result
    call.ensures (record { unopened = end.ensures.none; broken = end.ensures.failed; counted = end.ensures.prints }) end.ensures.handed_on none read printed
