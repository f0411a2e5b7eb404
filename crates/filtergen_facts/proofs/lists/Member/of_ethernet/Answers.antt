use Rattle.std.proofs.Common.{refl, arith}
use Rattle.filtergen_facts.specs.Lists.{no_bytes}
use Rattle.filtergen_facts.proofs.Members.{ethernet-member}
use Rattle.filtergen_facts.proofs.lists.Member.of_ethernet.Goals as goal

pub returns : goal.returns
returns c =
    rw (c.numbered-member.ensures, c.in_ok-member.ensures)
    (record {
      same = λ p.
          ethernet-member c.args.direction c.args.address.octets 0 c.from_be_bytes-member.result c.from_be_bytes.result no_bytes p
          (omega (arith, c.from_be_bytes-member.ensures, c.from_be_bytes.ensures)) (omega (arith, c.from_be_bytes.type_inv));
      weighs = refl;
    })
