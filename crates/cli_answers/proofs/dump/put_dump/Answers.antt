use Rattle.std.proofs.Common.{◌≡◌, ◌+◌, min, ap, length, length-append, arith, ◌∙◌, subst}
use Rattle.cli_answers.proofs.Rows.{full-line, rows-end, rows-next}
use Rattle.cli_answers.proofs.dump.put_dump.Goals as goal

pub loop-bytes-preserved : goal.loop-bytes-preserved
loop-bytes-preserved c =
    let old = c.loop-bytes.bytes-iterator.rest.now in
    let rest = c.next.new.self.rest.now in
    let x = c.in-Some.bytes.now in
    let (size, (is, long, some)) = c.in-Some.ensures.steps in
    let (can, finite, sixteen, place, whole) = c.loop-bytes.invariant in
    let most : length x ≡ min 16 (length old) = subst (λ k. length x ≡ min k (length old)) sixteen long in
    let at : c.loop-bytes.at + length old ≡ length c.args.packet.now = place some in
    let further : c.saturating_add-at.result ≡ c.loop-bytes.at + 16 = omega (arith, c.saturating_add-at.ensures, at) in (
      omega (arith, size, sixteen),
      tt,
      size ∙ sixteen,
      (λ more. omega (arith, further, at, full-line old x rest is most more, ap length is, length-append x rest)),
      (λ none. rw (further, c.in_ok-put_marks.ensures none) (rows-next c.loop-bytes.at old x rest _ _ _ is most some (whole none) c.in_ok-width.ensures)),
    )

pub returns : goal.returns
returns c = λ none. rows-end c.loop-bytes.at c.loop-bytes.bytes-iterator.rest.now _ _ c.in-None.ensures.steps.1.0 (c.loop-bytes.invariant.4 none)
