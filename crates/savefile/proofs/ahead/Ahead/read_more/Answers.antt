use Rattle.std.proofs.Common.{rules, ◌++◌, ◌+◌, [], take, drop, ap, ◌∙◌}
use Rattle.std.proofs.KnownBytes.{Consumes-kept, Consumes-nil}
use Rattle.std.proofs.Math.Seq.{take-add}
use Rattle.std.proofs.lemmas.List.{append-nil, with_items_is, places}
use Rattle.savefile.proofs.Pieces.{minus_nothing}
use Rattle.savefile.proofs.ahead.Ahead.read_more.Goals as goal

pub returns-in_err-n-clause-grows : goal.returns-in_err-n-clause-grows
returns-in_err-n-clause-grows g c = (
  [],
  rw (with_items_is c.to_front.new.self.memory c.read_behind.new.memory (search (rules, places)), append-nil)
      (search (rules, places, c.to_front.ensures.waiting, c.read_behind.ensures.front, c.as_mut_slice.ensures.value)),
  Consumes-kept _ _ _ [] (Consumes-nil _) (search (rules, c.read_behind.ensures.kept, c.to_front.ensures.source)),
)

pub returns-clause-grows : goal.returns-clause-grows
returns-clause-grows g c = (
  take c.in_ok-n.n (drop c.to_front.new.self.end c.read_behind.new.memory),
  rw (with_items_is c.to_front.new.self.memory c.read_behind.new.memory (search (rules, places)), c.to_front.ensures.start, minus_nothing (c.to_front.new.self.end + c.in_ok-n.n))
      (take-add c.to_front.new.self.end c.in_ok-n.n c.read_behind.new.memory
      ∙ ap (λ l. l ++ take c.in_ok-n.n (drop c.to_front.new.self.end c.read_behind.new.memory))
      (search (rules, places, c.to_front.ensures.start, c.to_front.ensures.waiting, c.read_behind.ensures.front, c.as_mut_slice.ensures.value))),
  search (rules, c.in_ok-n.ensures.bytes, c.to_front.ensures.source),
)
