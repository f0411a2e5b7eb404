use Rattle.filtergen_facts.specs.Lists.{no_bytes}
use Rattle.filtergen_facts.proofs.Members.{ports-member}
use Rattle.filtergen_facts.proofs.lists.Member.of_ports.Goals as goal

pub returns-clause-same : goal.returns-clause-same
returns-clause-same c = λ p.
    rw (c.numbered-member.ensures, c.ports_form.ensures, c.in_ok-member.ensures) (ports-member c.args.transport c.args.direction 0 0 c.args.low c.args.high no_bytes p)
