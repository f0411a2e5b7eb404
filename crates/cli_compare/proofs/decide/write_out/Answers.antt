use Rattle.std.proofs.Common.{◌≡◌, ◌∙◌, ℕ, List, Option, Some, IfSome, subst, sym}
use Rattle.std.specs.Prelude.{OnOk, OnErr}
use Rattle.std.specs.Io.KnownBytes.{Appends}
use Rattle.line_text.specs.Sending.{TakesPart}
use Rattle.cli_store.specs.Files.{BeginsAt, StoresAt, Texts}
use Rattle.cli_compare.specs.Comparing.{IsOut, out_of, savefile_of}
use Rattle.cli_compare.proofs.Out.{out-is}
use Rattle.cli_compare.proofs.decide.write_out.Goals as goal

pub returns-clause-out : goal.returns-clause-out
returns-clause-out g c tells =
    let F = g.F.FileStore in
    let T = g.F.Output.Sink.taken in
    let at = F.place c.args.files.now c.args.path.now in
    let made = c.in-Ok.ensures in
    let sent = c.write_witness-sink in
    let close = c.close-closed in
    let w = c.args.witness.now in
    let after = T sent.result.0 in
    let old = F.text c.create.new.self in
    let new = F.text close.new.self in
    let failed = F.failed close.new.self in
    let named = sent.ensures.named ∙ made.named tells in
    let stored = subst (λ n. OnOk close.result (IfSome after (StoresAt old new n))) named (close.ensures.stored tells) in
    let begun = subst (λ n. IfSome after (BeginsAt old new n)) named (close.ensures.begun tells) in
    let all = subst (λ b. OnOk sent.result.1 (Appends b after (savefile_of w))) (made.empty tells) sent.ensures.ok in
    let part = subst (λ b. OnErr sent.result.1 (TakesPart b after (savefile_of w))) (made.empty tells) sent.ensures.err in
    let is = out-is after old new failed at w close.result sent.result.1 all part sent.ensures.only
    (λ device. close.ensures.broke tells (λ none. sent.ensures.broke.0 device (none ∙ sym (made.works tells)))) sent.ensures.too_long.0
    stored begun (close.ensures.failed tells) in
    subst (IsOut (F.text c.args.files.now) new failed at w) (sym c.out_of.ensures)
    (subst (λ (before : Texts). IsOut before new failed at w (out_of close.result sent.result.1)) made.texts is)
