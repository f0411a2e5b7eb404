use Rattle.std.proofs.Common.{◌≡◌, ◌∙◌, IfSome, subst, sym}
use Rattle.cli_store.specs.Files.{BeginsAt, StoresAt, Texts}
use Rattle.cli_cut.specs.Cutting.{BrokeOffAt, Ends}
use Rattle.cli_cut.proofs.Ending.{breaks-at, ends-at}
use Rattle.cli_cut.proofs.one.cut_opened.Goals as goal

pub returns-in-Ok-close-clause-ends : goal.returns-in-Ok-close-clause-ends
returns-in-Ok-close-clause-ends g c tells text has =
    let words = c.args.words.now in
    let at = g.F.FileStore.place c.args.files.now words.output.now in
    let old = g.F.FileStore.text c.done-noted.new.self in
    let new = g.F.FileStore.text c.close.new.self in
    let failed = g.F.FileStore.failed c.close.new.self in
    let end = c.cut-source.result in
    let stored = subst (λ n. IfSome (g.F.Output.Sink.taken end.sink) (StoresAt old new n)) (c.cut-source.ensures.named ∙ c.in-Ok.ensures.named tells) (c.in-Ok-close.ensures.stored tells) in
    let whole = ends-at g.F.Input.Source.left g.F.Output.Sink.taken c.args.source c.in-Ok.sink c.args.program.now words.snap words.order words.«unit» end
    c.cut-source.ensures.cuts text has (c.in-Ok.ensures.empty tells) old new failed at stored c.packets_take_room.ensures.written
    (λ is. c.close.ensures.stays tells (c.done-noted.ensures.failed tells (λ none. c.cut-source.ensures.source_broke.0 is (none ∙ sym (c.requires.works tells)))))
    (λ is. c.close.ensures.broke tells (λ none. c.cut-source.ensures.sink_broke.0 is (none ∙ sym (c.in-Ok.ensures.works tells)))) in
    subst (λ (before : Texts). Ends before new failed at text c.args.program.now words.snap words.order words.«unit» end.tally end.end)
    (c.done-noted.ensures.kept.1 ∙ c.in-Ok.ensures.texts) whole

pub returns-in-Err-close-clause-ends : goal.returns-in-Err-close-clause-ends
returns-in-Err-close-clause-ends g c tells text has =
    let words = c.args.words.now in
    let at = g.F.FileStore.place c.args.files.now words.output.now in
    let old = g.F.FileStore.text c.done-noted.new.self in
    let new = g.F.FileStore.text c.close.new.self in
    let end = c.cut-source.result in
    let begun = subst (λ n. IfSome (g.F.Output.Sink.taken end.sink) (BeginsAt old new n)) (c.cut-source.ensures.named ∙ c.in-Ok.ensures.named tells) (c.in-Err-close.ensures.begun tells) in
    let off = breaks-at g.F.Input.Source.left g.F.Output.Sink.taken c.args.source c.in-Ok.sink c.args.program.now words.snap words.order words.«unit» end
    c.cut-source.ensures.cuts text has (c.in-Ok.ensures.empty tells) old new at begun in (
      c.in-Err-close.ensures.failed tells,
      subst (λ (before : Texts). BrokeOffAt before new at text c.args.program.now words.snap words.order words.«unit») (c.done-noted.ensures.kept.1 ∙ c.in-Ok.ensures.texts) off,
    )
