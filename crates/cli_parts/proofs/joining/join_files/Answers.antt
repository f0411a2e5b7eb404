use Rattle.cli_parts.proofs.Joins.{joined_of, kept_of, sizes_fault, writing_fault}
use Rattle.cli_parts.proofs.joining.join_files.Goals as goal

pub returns-in-Err-check_sizes-clause-fault : goal.returns-in-Err-check_sizes-clause-fault
returns-in-Err-check_sizes-clause-fault g c = λ known.
    sizes_fault (g.F.PartFiles.text c.args.files.now) c.args.text.now c.in-Ok.selection c.as_slice-parts.result.now c.in-Err-check_sizes.fault
    c.in-Ok.ensures.selects c.as_slice-parts.ensures.value (c.in-Err-check_sizes.ensures.fault known)

pub returns-in-Ok-write_parts-clause-joined : goal.returns-in-Ok-write_parts-clause-joined
returns-in-Ok-write_parts-clause-joined g c = λ known.
    joined_of (g.F.PartFiles.text c.args.files.now) (g.F.JoinFiles.apart c.args.files.now) (g.W.Sink.taken c.args.to.now) _ c.args.text.now c.in-Ok.selection c.as_slice-parts.result.now
    c.in-Ok.ensures.selects c.as_slice-parts.ensures.value (c.in_default.ensures known) (c.in_default-check_sizes.ensures.sizes known) (c.in-Ok-write_parts.ensures.written known)

pub returns-clause-fault : goal.returns-clause-fault
returns-clause-fault g c = λ known.
    writing_fault (g.F.PartFiles.text c.args.files.now) c.args.text.now c.in-Ok.selection c.as_slice-parts.result.now c.in-Err-write_parts.fault
    c.in-Ok.ensures.selects c.as_slice-parts.ensures.value (c.in-Err-write_parts.ensures.fault known)

pub returns-clause-kept : goal.returns-clause-kept
returns-clause-kept g c = λ known.
    kept_of (g.F.PartFiles.text c.args.files.now) c.args.text.now c.in-Ok.selection c.as_slice-parts.result.now c.args.to.now c.write_parts.new.to
    c.in-Ok.ensures.selects c.as_slice-parts.ensures.value (c.write_parts.ensures.untouched known)
