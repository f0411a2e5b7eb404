use Rattle.std.proofs.Common.{◌≡◌, ◌==◌, false, ap, ◌∙◌, arith}
use Rattle.filter_meaning.specs.Meaning.{Packet, decided, half, is_type}
use Rattle.filter_meaning.specs.declared.verdict.Verdict.TheVariants.{Yes}
use Rattle.filtergen_code.proofs.Leading.{decides-apart, decides-known, decides-by-more}
use Rattle.filtergen_code.proofs.ValueLists.{type-known, type-missing, other-number}
use Rattle.filtergen_code.proofs.code.Code.emit_non_ip_type.Goals as goal

pub returns-then-is_one_for_all_types : goal.returns-then-is_one_for_all_types
returns-then-is_one_for_all_types c =
    let n = c.args.number in
    let holds : (p : Packet) → is_type 0x0800 p ≡ Yes → is_type n p ≡ decided false = λ p is. type-known (λ m. m == n) (half 12 p) is ∙ ap decided (other-number n c.requires.number) in
    decides-by-more 8 (omega arith) (decides-known false c.args.targets c.requires.ready.1 holds (rw c.any_exits.ensures at c.emit_ether_type.ensures))

pub returns : goal.returns
returns c =
    let n = c.args.number in
    let holds : (p : Packet) → is_type 0x0800 p ≡ Yes → is_type n p ≡ decided false = λ p is. type-known (λ m. m == n) (half 12 p) is ∙ ap decided (other-number n c.requires.number) in
    rw c.emit_ip_split.ensures.places
    (decides-apart false c.args.targets c.requires.ready.1 holds (λ p is. type-missing (λ m. m == n) (half 12 p) is) (rw c.other_exits.ensures at c.emit_ether_type-other.ensures) c.emit_ip_split.ensures.test)
