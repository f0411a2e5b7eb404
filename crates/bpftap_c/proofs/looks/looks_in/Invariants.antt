use Rattle.std.proofs.Common.{◌≡◌, take, map}
use Rattle.std.specs.List.{flat_map}
use Rattle.filter_explain.specs.Asking.{question_of}
use Rattle.filter_meaning.specs.Looks.{looks}
use Rattle.filter_meaning.specs.Meaning.{packet_of}
use Rattle.bpftap_c.proofs.looks.looks_in.Given as goal

abbrev pub invariant-loop-part : goal.invariant-loop-part
invariant-loop-part l =
    l.looks.items ≡ flat_map (λ q. looks q.part (packet_of l.packet l.wire)) (map question_of (take l.part-index l.part-items))
