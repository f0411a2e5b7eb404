use Rattle.std.proofs.Common.{◌≡◌, List, ℕ, Bor, take, map}
use Rattle.bpftap_c.specs.Steps.{texts_of}
use Rattle.bpftap_c.proofs.played.slices_of.Given as goal

abbrev pub invariant-loop-capture : goal.invariant-loop-capture
invariant-loop-capture l = map (λ (s : Bor (List ℕ)). s.now) l.slices.items ≡ texts_of (take l.capture-index l.captures)
