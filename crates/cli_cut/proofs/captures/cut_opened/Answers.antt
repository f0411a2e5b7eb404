use Rattle.std.proofs.Common.{◌≡◌, ◌∷◌, ◌++◌, ◌∙◌, [], List, length, ap, arith, refl, subst}
use Rattle.cli_split.specs.Closed.{ClosesAll}
use Rattle.cli_cut.proofs.Several.{cuts_packets, one_end, outcome, part_of}
use Rattle.cli_cut.proofs.captures.cut_opened.Goals as goal

pub close_files-requires : goal.close_files-requires
close_files-requires g c κs =
    let is = c.push_reserved.ensures.items ∙ ap (λ ps. ps ++ part_of c.args.words.now c.args.program c.in-Ok-create.sink ∷ []) c.in-Ok.ensures.no_part in
    let one = one_end g.F.Input.Source.left g.F.Input.Source.failures g.F.Output.Sink.taken g.F.Output.Sink.name g.F.Output.Sink.failures c.args.words.now c.args.program c.in-Ok-create.sink
    c.args.captures.items c.push_reserved.new.self.items c.split-end.result c.split-end.ensures is in
    ((refl, tt), ((c.in-Ok.ensures.none_closed, omega (arith, one, c.in-Ok.ensures.closed)), (λ tells. omega (arith, one, c.in-Ok-create.ensures.pending tells))))

pub returns-clause-others : goal.returns-clause-others
returns-clause-others g c tells =
    let T = g.F.Output.Sink.taken in
    let N = g.F.Output.Sink.name in
    let B = g.F.Output.Sink.failures in
    let place = g.F.FileStore.place c.args.files.now in
    let new = g.F.FileStore.text c.close_files.new.files in
    let failed = g.F.FileStore.failed c.close_files.new.files in
    let made = c.in-Ok-create.ensures in
    let is = c.push_reserved.ensures.items ∙ ap (λ ps. ps ++ part_of c.args.words.now c.args.program c.in-Ok-create.sink ∷ []) c.in-Ok.ensures.no_part in
    let closes = subst (λ t. ClosesAll T N B failed t new c.split-end.result.parts.items c.close_files.result.parts.items) made.texts (c.close_files.ensures.closes tells) in
    (outcome g.F.Input.Source.left g.F.Input.Source.failures T N B c.args.words.now c.args.program c.in-Ok-create.sink c.args.captures.items c.push_reserved.new.self.items c.split-end.result
    c.split-end.ensures is place (g.F.FileStore.text c.args.files.now) new failed c.packets_take_room.ensures.written c.close_files.result (made.empty tells) (made.works tells) (made.named tells) closes).1

pub returns-clause-cuts : goal.returns-clause-cuts
returns-clause-cuts g c tells =
    let T = g.F.Output.Sink.taken in
    let N = g.F.Output.Sink.name in
    let B = g.F.Output.Sink.failures in
    let place = g.F.FileStore.place c.args.files.now in
    let new = g.F.FileStore.text c.close_files.new.files in
    let failed = g.F.FileStore.failed c.close_files.new.files in
    let made = c.in-Ok-create.ensures in
    let is = c.push_reserved.ensures.items ∙ ap (λ ps. ps ++ part_of c.args.words.now c.args.program c.in-Ok-create.sink ∷ []) c.in-Ok.ensures.no_part in
    let closes = subst (λ t. ClosesAll T N B failed t new c.split-end.result.parts.items c.close_files.result.parts.items) made.texts (c.close_files.ensures.closes tells) in
    cuts_packets g.F.Input.Source.left g.F.Input.Source.failures T N B c.args.words.now c.args.program c.in-Ok-create.sink c.args.captures.items c.push_reserved.new.self.items c.split-end.result
    c.split-end.ensures is place (g.F.FileStore.text c.args.files.now) new failed c.packets_take_room.ensures.written c.close_files.result (made.empty tells) (made.works tells) (made.named tells) closes
    (c.requires.late tells) (c.close_files.ensures.failed tells) c.close_files.ensures.end

pub returns-clause-closed : goal.returns-clause-closed
returns-clause-closed g c tells =
    let is = c.push_reserved.ensures.items ∙ ap (λ ps. ps ++ part_of c.args.words.now c.args.program c.in-Ok-create.sink ∷ []) c.in-Ok.ensures.no_part in
    let one = one_end g.F.Input.Source.left g.F.Input.Source.failures g.F.Output.Sink.taken g.F.Output.Sink.name g.F.Output.Sink.failures c.args.words.now c.args.program c.in-Ok-create.sink
    c.args.captures.items c.push_reserved.new.self.items c.split-end.result c.split-end.ensures is in
    omega (arith, one, c.in-Ok-create.ensures.pending tells, c.close_files.ensures.pending tells)
