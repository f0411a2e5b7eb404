use Rattle.std.proofs.Common.{◌≤◌, length, rules, sym}
use Rattle.cli_filter.proofs.Planned.{zip-length}
use Rattle.cli_split.specs.Lines.{IsCompiled}
use Rattle.cli_split.proofs.Planned.{all_few, too_many, uncompiled}
use Rattle.cli_split.proofs.plan.read_plan.Goals as goal

pub returns-then-len-gt-MAX_LINES-clause-fault : goal.returns-then-len-gt-MAX_LINES-clause-fault
returns-then-len-gt-MAX_LINES-clause-fault c = too_many c.args.text.now c.in_ok-lines.lines.items (search rules) c.in_ok-lines.ensures.ok

pub returns-in_err-programs-clause-fault : goal.returns-in_err-programs-clause-fault
returns-in_err-programs-clause-fault c =
    let few : length c.in_ok-lines.lines.items ≤ 1024 = search rules in
    let are = all_few c.args.text.now c.in_ok-lines.lines.items few c.in_ok-lines.ensures.ok in
    let why = uncompiled c.args.text.now c.in_ok-lines.lines.items c.in_err-programs.field-0.0 are (rw c.as_slice.ensures.value at c.in_err-programs.ensures.fault) in
    search rules

pub returns-clause-lines : goal.returns-clause-lines
returns-clause-lines c = all_few c.args.text.now c.in_ok-lines.lines.items (search rules) c.in_ok-lines.ensures.ok

pub returns-clause-all : goal.returns-clause-all
returns-clause-all c = sym (zip-length IsCompiled c.in_ok-lines.lines.items c.in_ok-programs.programs.items (rw c.as_slice.ensures.value at c.in_ok-programs.ensures.programs))
