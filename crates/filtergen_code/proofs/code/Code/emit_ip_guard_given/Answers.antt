use Rattle.std.proofs.Common.{◌≡◌, ◌+◌, true, sym, ap, arith}
use Rattle.filter_meaning.specs.Meaning.{is_type, and_test, and_then}
use Rattle.filtergen_facts.specs.Facts.{has_type}
use Rattle.filtergen_code.proofs.Knowing.{type-from}
use Rattle.filtergen_code.proofs.Leading.{decides-guarded}
use Rattle.filtergen_code.proofs.Narrowed.{given-more, given-ip, given-any}
use Rattle.filtergen_code.proofs.code.Code.emit_ip_guard_given.Goals as goal

pub returns-then-has_type : goal.returns-then-has_type
returns-then-has_type c =
    let known = c.args.context.known in
    let typed : has_type known 0x0800 ≡ true = sym c.if-has_type.ensures in
    rw c.at.ensures
    (record {
      guards = λ most test before are tested.
          given-more (most + 4) (omega arith)
          (given-ip known (and_test (is_type 0x0800) test) c.args.context.targets (λ p holds. type-from known 0x0800 p holds typed)
          (λ p holds. sym (ap (λ v. and_then v (test p)) (type-from known 0x0800 p holds typed))) tested);
    })

pub returns : goal.returns
returns c =
    rw c.emit_ip_guard.ensures.places
    (record { guards = λ most test before are tested. given-any c.args.context.known (decides-guarded c.args.context.targets are tested c.emit_ip_guard.ensures.test) })
