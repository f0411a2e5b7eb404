use Rattle.std.proofs.Common.{◌≡◌, ◌<◌, length, refl, sym, subst, arith, rules, get_or-set_same, get_or-set_other}
use Rattle.std.specs.Prelude.{Some, None}
use Rattle.filter_diagrams.proofs.state.State.with_cell.Goals as goal

pub returns : goal.returns
returns c =
    let s = c.args.self.now in
    let place = c.args.place in
    let inside : place < 16 = omega arith in
    let long : length s.memory ≡ 16 = search rules in
    record {
      inside = inside;
      accumulator = refl;
      index = refl;
      here = get_or-set_same s.memory place (Some c.args.word) None (subst (λ n. place < n) (sym long) inside);
      others = λ k apart. get_or-set_other s.memory place k (Some c.args.word) None apart;
    }
