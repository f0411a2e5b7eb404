use Rattle.std.proofs.Common.{◌≡◌, ◌++◌, [], ◌∷◌, ◌∙◌, ap, length, length-append, arith, refl, subst, sym}
use Rattle.cli_split.specs.Reading.{ReadsSoFar}
use Rattle.cli_split.specs.Standing.{IsEndOf, HasTaken}
use Rattle.cli_split.specs.Writing.{IsWritten}
use Rattle.cli_split.proofs.Lists.{zip-through}
use Rattle.cli_filter.proofs.Planned.{zip-length}
use Rattle.cli_split.proofs.Readings.{first-read}
use Rattle.cli_split.proofs.Splits.{read-first}
use Rattle.cli_split.proofs.split.Room.split_opened.Goals as goal

pub give_opened-source-requires-clause-so_far : goal.give_opened-source-requires-clause-so_far
give_opened-source-requires-clause-so_far g c = let (order, unit, parts, begun, room) = c.requires.begun in (order, unit, [], parts, (refl, omega arith, begun))

pub push_reserved-requires : goal.push_reserved-requires
push_reserved-requires g c = omega (arith, c.args.self.sources.ok, ap length c.requires.sources.0, c.requires.sources.1)

pub give_captures-sources-requires-clause-behind : goal.give_captures-sources-requires-clause-behind
give_captures-sources-requires-clause-behind g c = omega (arith, ap length c.push_reserved.ensures.items, length-append c.args.self.sources.items (c.give_opened-source.result.0 ∷ []))

pub give_captures-sources-requires-clause-room : goal.give_captures-sources-requires-clause-room
give_captures-sources-requires-clause-room g c =
    omega (arith, ap length c.push_reserved.ensures.items, length-append c.args.self.sources.items (c.give_opened-source.result.0 ∷ []), ap length c.requires.sources.0, c.requires.sources.1, c.push_reserved.ensures.capacity)

pub give_captures-sources-requires-clause-so_far : goal.give_captures-sources-requires-clause-so_far
give_captures-sources-requires-clause-so_far g c =
    let (first, o) = c.requires.opened in
    let (order, unit, parts, begun, room) = c.requires.begun in
    let (packets, r, goes) = c.give_opened-source.ensures.reads first o in
    (order, unit, packets, parts, goes order unit [] parts (refl, omega arith, begun))

pub returns : goal.returns
returns g c = λ first order unit parts o begun.
    let L = g.R.Source.left in
    let B = g.R.Source.failures in
    let T = g.W.Sink.taken in
    let N = g.W.Sink.name in
    let F = g.W.Sink.failures in
    let rest = c.args.others.items in
    let opened = c.give_opened-source in
    let (packets, r, goes) = opened.ensures.reads first o in
    let given = goes order unit [] parts (refl, omega arith, begun) in
    let back : opened.result.0 ∷ [] ≡ c.push_reserved.new.self.items = sym (c.push_reserved.ensures.items ∙ ap (λ xs. xs ++ opened.result.0 ∷ []) c.requires.sources.0) in
    let so = subst (λ ts. ReadsSoFar L B (first ∷ rest) ts (length ts) rest packets opened.result.1) back
    (first-read L B first opened.result.0 opened.new.self.read rest packets opened.result.1 r given.0) in
    let behind = c.give_captures-sources in
    let (more, reads, now) = behind.ensures.reads order unit packets parts (first ∷ rest) given so in
    read-first L B T N F (first ∷ rest) parts order unit (record { sources = behind.result.0; parts = c.close_all.result; end = behind.result.1 }) first rest (packets ++ more)
    refl reads (behind.ensures.begun opened.ensures.begun)
    (zip-through (HasTaken T N F order unit (packets ++ more)) (IsEndOf T N F) (IsWritten T N F order unit (packets ++ more))
    (λ part outlet end stands ends. ends order unit (packets ++ more) part stands) parts behind.new.self.outlets.items c.close_all.result.items now.2 c.close_all.ensures)

pub close_all-requires : goal.close_all-requires
close_all-requires g c =
    let L = g.R.Source.left in
    let B = g.R.Source.failures in
    let T = g.W.Sink.taken in
    let N = g.W.Sink.name in
    let F = g.W.Sink.failures in
    let (first, o) = c.requires.opened in
    let (order, unit, parts, begun, room) = c.requires.begun in
    let rest = c.args.others.items in
    let opened = c.give_opened-source in
    let (packets, r, goes) = opened.ensures.reads first o in
    let given = goes order unit [] parts (refl, omega arith, begun) in
    let back : opened.result.0 ∷ [] ≡ c.push_reserved.new.self.items = sym (c.push_reserved.ensures.items ∙ ap (λ xs. xs ++ opened.result.0 ∷ []) c.requires.sources.0) in
    let so = subst (λ ts. ReadsSoFar L B (first ∷ rest) ts (length ts) rest packets opened.result.1) back
    (first-read L B first opened.result.0 opened.new.self.read rest packets opened.result.1 r given.0) in
    let (more, reads, now) = c.give_captures-sources.ensures.reads order unit packets parts (first ∷ rest) given so in
    let same : length parts ≡ length c.give_captures-sources.new.self.outlets.items = zip-length (HasTaken T N F order unit (packets ++ more)) parts c.give_captures-sources.new.self.outlets.items now.2 in
    record { room = (c.requires.ends, omega (arith, same, room)) }
