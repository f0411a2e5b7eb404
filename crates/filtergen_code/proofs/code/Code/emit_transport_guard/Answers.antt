use Rattle.std.proofs.Common.{◌+◌, arith}
use Rattle.filtergen_code.specs.Parts.{number_of, of_transport}
use Rattle.filtergen_code.proofs.Leading.{decides-by-more, decides-by-same, decides-first}
use Rattle.filtergen_code.proofs.Sharing.{number-first, number-shared}
use Rattle.filtergen_code.proofs.code.Code.emit_transport_guard.Goals as goal

pub returns : goal.returns
returns c =
    let asked = c.args.asked in
    rw c.emit_ip_guard-entry.ensures.places
    (record {
      guards = λ most test exits before are of_yes of_no tested.
          decides-by-more (most + 18) (omega arith)
          (decides-by-same _ (of_transport asked test) (λ p bytes. number-shared asked test p)
          (decides-first asked (number_of asked) c.args.targets are (number-first asked) of_yes of_no tested c.emit_fragment_test-yes.ensures c.emit_transport_number-ip.ensures c.emit_ip_guard-entry.ensures.test));
    })
