use Rattle.std.proofs.Common.{◌≡◌, ◌≢◌, ◌∙◌, All, ap, arith, length, refl, subst, sym}
use Rattle.std.specs.List.{AllZip}
use Rattle.cli_store.specs.Files.{Texts}
use Rattle.cli_split.specs.Closed.{ClosesAll}
use Rattle.cli_split.specs.Lines.{IsCompiled}
use Rattle.cli_split.specs.Opened.{IsMadeOf, IsOutput, IsUnmade}
use Rattle.cli_split.specs.Splitting.{is_begun}
use Rattle.cli_split.proofs.Parting.{as-many-parts, is-split}
use Rattle.cli_split.proofs.files.split_captures.Goals as goal

pub make_parts-requires : goal.make_parts-requires
make_parts-requires g c κs =
    let same = c.as_slice.ensures.value in
    let place = g.F.FileStore.place c.args.files.now in
    let opened = g.F.FileStore.opened c.args.files.now in (
      (refl, tt),
      (
        (c.requires.space.no_part, omega (arith, c.requires.space.parts, c.requires.all)),
        (
          omega (arith, c.requires.all, ap length same),
          (λ tells. subst (λ ls. All (λ line. All (λ read. read ≢ place line.output.now) opened) ls) (sym same) (c.requires.apart tells)),
        ),
      ),
    )

pub close_unused-requires : goal.close_unused-requires
close_unused-requires g c κs = ((refl, tt), ((λ tells. omega (arith, c.in-Err.ensures.pending tells)), c.in-Err.ensures.empty))

pub split-split-requires : goal.split-split-requires
split-split-requires g c =
    let room = c.requires.space.room in
    let count = c.in-Ok.ensures.count ∙ ap length c.as_slice.ensures.value in
    record {
      room = record {
        no_source = room.no_source;
        sources = room.sources;
        no_outlet = room.no_outlet;
        outlets = omega (arith, room.outlets, count);
        no_end = room.no_end;
        ends = omega (arith, room.ends, count);
      };
    }

pub close_files-end-requires : goal.close_files-end-requires
close_files-end-requires g c κs =
    let s = c.split-split.ensures in
    let count = c.in-Ok.ensures.count ∙ ap length c.as_slice.ensures.value in
    let many = as-many-parts g.F.Output.Sink.taken g.F.Output.Sink.name g.F.Output.Sink.failures c.args.words.now.order c.args.words.now.«unit» s.packets (is_begun c.args.captures.items c.split-split.result.end) c.make_parts.new.parts.items
    c.split-split.result.parts.items s.writes in
    ((refl, tt), ((c.requires.space.none_closed, omega (arith, c.requires.space.closed, many, count)), (λ tells. omega (arith, c.in-Ok.ensures.pending tells, many))))

pub returns-in-Err-clause-closed : goal.returns-in-Err-clause-closed
returns-in-Err-clause-closed g c tells = omega (arith, c.in-Err.ensures.pending tells, c.close_unused.ensures.pending tells)

pub returns-in-Err-clause-refused : goal.returns-in-Err-clause-refused
returns-in-Err-clause-refused g c tells =
    let place = g.F.FileStore.place c.args.files.now in
    let denied = g.F.FileStore.denied c.close_unused.new.files in (
      subst (λ ls. IsUnmade (IsOutput ls) place denied c.in-Err.refusal) c.as_slice.ensures.value
          (subst (λ d. IsUnmade (IsOutput c.as_slice.result.now) place d c.in-Err.refusal) (sym c.close_unused.ensures.denied) (c.in-Err.ensures.refused tells)),
      (λ p. c.close_unused.ensures.texts tells p ∙ ap (λ (t : Texts). t p) c.in-Err.ensures.texts),
    )

pub returns-clause-split : goal.returns-clause-split
returns-clause-split g c tells =
    let taken = g.F.Output.Sink.taken in
    let name = g.F.Output.Sink.name in
    let failures = g.F.Output.Sink.failures in
    let place = g.F.FileStore.place c.args.files.now in
    let old = g.F.FileStore.text c.args.files.now in
    let new = g.F.FileStore.text c.close_files-end.new.files in
    let failed = g.F.FileStore.failed c.close_files-end.new.files in
    let split = c.split-split.result in
    let parts = c.make_parts.new.parts.items in
    let same = c.as_slice.ensures.value in
    let programs = subst (λ ls. AllZip IsCompiled ls c.args.plan.programs.items) (sym same) c.requires.programs in
    let made = subst (λ ls. AllZip (IsMadeOf taken name failures place IsCompiled) ls parts) same (c.in-Ok.ensures.made tells programs) in
    let closes = subst (λ (was : Texts). ClosesAll taken name failures failed was new split.parts.items c.close_files-end.result.parts.items) c.in-Ok.ensures.texts (c.close_files-end.ensures.closes tells) in
    is-split g.F.Input.Source.left g.F.Input.Source.failures taken name failures place old new failed c.args.words.now c.args.plan.lines.items c.args.captures.items parts split c.close_files-end.result
    c.split-split.ensures (c.requires.late tells) made (c.close_files-end.ensures.failed tells) closes c.close_files-end.ensures.end (c.requires.own tells) c.packets_take_room.ensures.written

pub returns-clause-closed : goal.returns-clause-closed
returns-clause-closed g c tells =
    let s = c.split-split.ensures in
    let many = as-many-parts g.F.Output.Sink.taken g.F.Output.Sink.name g.F.Output.Sink.failures c.args.words.now.order c.args.words.now.«unit» s.packets (is_begun c.args.captures.items c.split-split.result.end) c.make_parts.new.parts.items
    c.split-split.result.parts.items s.writes in
    omega (arith, c.in-Ok.ensures.pending tells, c.close_files-end.ensures.pending tells, many)
