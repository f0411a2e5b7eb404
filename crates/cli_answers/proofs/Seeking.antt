-- How looking for a packet ends.
use Rattle.std.proofs.Common.{◌≡◌, ℕ, inl, inr, Bool, true, false, List, [], ◌∷◌, ◌++◌, Option, Result, Ok, Err, subst, sym}
use Rattle.savefile.specs.declared.fault.Fault.{Fault}
use Rattle.savefile.specs.declared.header.Header.{Header}
use Rattle.savefile.specs.declared.packet.Packet.{Packet}
use Rattle.savefile.specs.Reader.{HasGiven, IsCause, Reading, WasBegun}
use Rattle.cli_answers.specs.declared.seek.Sought.{Sought}
use Rattle.cli_answers.specs.Seeking.{GoesToFirst, Seeks}

-- a reader went on to the first packet that passes, or to the end
pub seeks-it : {R : Type 0} (left : R → Option (List ℕ)) (from : R) (passes : Packet → Bool) (header : Header) (r : Reading R) (s : Sought R) (found : Result Bool Fault) →
    ((packets : List Packet) → HasGiven left (left from) header packets r → WasBegun (left from) header packets) →
    s.source ≡ r.source → s.found ≡ found → GoesToFirst left (left from) header passes r found →
    Seeks left from passes s
seeks-it left from passes header r s (Ok true) begins same is (before, p, none, passed, gives) =
    inr (inl (header, before, p, none, passed, begins (before ++ p ∷ []) gives, is))
seeks-it left from passes header r s (Ok false) begins same is (packets, none, was) =
    inr (inr (header, packets, none, inl (was, is)))
seeks-it left from passes header r s (Err fault) begins same is (packets, none, cause) =
    inr (inr (header, packets, none, inr (fault, subst (λ x. IsCause (left from) (left x) header packets fault) (sym same) cause, is)))
