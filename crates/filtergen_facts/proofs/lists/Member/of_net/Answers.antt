use Rattle.filtergen_facts.specs.Lists.{no_bytes}
use Rattle.filtergen_facts.proofs.Members.{net-member}
use Rattle.filtergen_facts.proofs.lists.Member.of_net.Goals as goal

pub returns-clause-same : goal.returns-clause-same
returns-clause-same c = λ p.
    rw (c.numbered-member.ensures, c.net_form.ensures, c.in_ok-member.ensures) (net-member c.args.network c.args.direction c.args.address c.args.mask 0 no_bytes p)
