use Rattle.std.proofs.Common.{◌++◌, arith, length-append, length-take, rules}
use Rattle.std.proofs.KnownBytes.{Appends-trans, Consumes-trans}
use Rattle.pcap_parts.proofs.Copied.{if_size, too_short}
use Rattle.pcap_parts.proofs.copy.copy_bytes.Goals as goal

pub loop-left-preserved : goal.loop-left-preserved
loop-left-preserved g c =
    let (bytes, took, gave, sum) = c.loop-left.invariant.copied in
    let (more, takes, gives, many) = c.in-Ok.ensures.copied in
    let bound = c.in-Ok.ensures.bound in
    record {
      copied = (
        bytes ++ more,
        Consumes-trans _ _ _ bytes more took takes,
        Appends-trans _ _ _ bytes more gave gives,
        omega (arith, sum, many, length-append bytes more, bound.0, bound.1, c.min-most.ensures, length-take c.min-most.result c.loop-left.room),
      );
      room = search rules;
      named = search rules;
      input = search rules;
      output = search rules;
    }

pub returns-in-Err-clause-short : goal.returns-in-Err-clause-short
returns-in-Err-clause-short g c =
    let (bytes, took, gave, sum) = c.loop-left.invariant.copied in
    if_size _ _ c.in-Err.fault (too_short _ _ bytes c.args.count took (omega (arith, sum, c.loop-left-test.true))) c.in-Err.ensures.ended
