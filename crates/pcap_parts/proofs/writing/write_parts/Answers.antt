use Rattle.std.proofs.Common.{List, ℕ, All, subst}
use Rattle.std.specs.Io.KnownBytes.{Appends}
use Rattle.pcap_parts.specs.Writing.{HasHeader, IsFileFault, IsWriteFault, OneOf}
use Rattle.pcap_parts.proofs.Bodies.{fault_of_headers, fault_of_one, if_err, on_ok, one_of, written_of}
use Rattle.pcap_parts.proofs.writing.write_parts.Goals as goal

pub returns-in-Err-clause-fault : goal.returns-in-Err-clause-fault
returns-in-Err-clause-fault g c = λ known.
    let text = g.F.PartFiles.text c.args.files.now in
    fault_of_one text c.args.parts.now c.in-Err.fault (one_of (IsFileFault text c.in-Err.fault) c.args.parts.now 0 _ c.requires.some (c.in-Err.ensures.fault known))

pub returns-in-Err-check_headers-clause-fault : goal.returns-in-Err-check_headers-clause-fault
returns-in-Err-check_headers-clause-fault g c = λ known.
    let text = g.F.PartFiles.text c.args.files.now in
    let parts = c.args.parts.now in
    fault_of_headers text parts c.in-Ok-header_of.header.items c.as_slice.result.now _ c.in-Err-check_headers.fault c.as_slice.ensures.value
    c.requires.some (c.in-Ok-header_of.ensures.header known) (c.in-Err-check_headers.ensures.fault known)

pub returns-in-Ok-write_text-clause-written : goal.returns-in-Ok-write_text-clause-written
returns-in-Ok-write_text-clause-written g c = λ known.
    let text = g.F.PartFiles.text c.args.files.now in
    let parts = c.args.parts.now in
    let header = c.in-Ok-header_of.header.items in
    let before = g.W.Sink.taken c.args.to.now in
    let after = g.W.Sink.taken c.write_text.new.to in
    let all = subst (λ (h : List ℕ). All (HasHeader text h) parts) c.as_slice.ensures.value (c.in_default-check_headers.ensures.same known) in
    let took = subst (Appends before after) c.as_slice-2.ensures.value c.in-Ok-write_text.ensures.whole in
    on_ok c.append_parts.result (written_of text parts header before after (g.W.Sink.taken c.append_parts.new.to) (c.in-Ok-header_of.ensures.header known).0 all took)
    (c.append_parts.ensures.took known)

pub returns-in-Ok-write_text-clause-untouched : goal.returns-in-Ok-write_text-clause-untouched
returns-in-Ok-write_text-clause-untouched g c = λ known not. absurd (not (c.as_slice.result.now, c.in_default-check_headers.ensures.same known))

pub returns-in-Ok-write_text-clause-fault : goal.returns-in-Ok-write_text-clause-fault
returns-in-Ok-write_text-clause-fault g c = λ known.
    let text = g.F.PartFiles.text c.args.files.now in
    let parts = c.args.parts.now in
    if_err (λ fault. OneOf (IsFileFault text fault) parts) (IsWriteFault text parts) c.append_parts.result (fault_of_one text parts) (c.append_parts.ensures.fault known)

pub returns-clause-untouched : goal.returns-clause-untouched
returns-clause-untouched g c = λ known not. absurd (not (c.as_slice.result.now, c.in_default-check_headers.ensures.same known))
