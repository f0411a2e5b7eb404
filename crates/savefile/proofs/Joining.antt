-- Records after records, and after a savefile that ends clean.
use Rattle.std.proofs.Common.{ℕ, List, [], ◌∷◌, ◌++◌, drop, sym, subst}
use Rattle.std.proofs.lemmas.List.{drop-append-le}
use Rattle.savefile.specs.declared.header.Order.{Order}
use Rattle.savefile.specs.declared.header.Unit.{Unit as TimeUnit}
use Rattle.savefile.specs.declared.packet.Packet.{Packet}
use Rattle.savefile.specs.Savefile.{AreRecords, IsSavefile}
use Rattle.savefile.proofs.Pieces.{IsHeader-front, IsRecord-front}

pub AreRecords-join : (order : Order) → (unit : TimeUnit) (xs ys : List ℕ) (ps qs : List Packet) (rest : List ℕ)
    → AreRecords order unit xs ps [] → AreRecords order unit ys qs rest → AreRecords order unit (xs ++ ys) (ps ++ qs) rest
AreRecords-join order unit xs ys [] qs rest e more = subst (λ (t : List ℕ). AreRecords order unit (t ++ ys) qs rest) (sym e) more
AreRecords-join order unit xs ys (p ∷ ps) qs rest e more =
    (e.0 ++ ys, IsRecord-front order unit xs ys p e.0 e.1, AreRecords-join order unit e.0 ys ps qs rest e.2 more)

pub IsSavefile-join : (xs ys : List ℕ) (order : Order) (unit : TimeUnit) (snap : ℕ) (ps qs : List Packet) (rest : List ℕ)
    → IsSavefile xs order unit snap ps [] → AreRecords order unit ys qs rest → IsSavefile (xs ++ ys) order unit snap (ps ++ qs) rest
IsSavefile-join xs ys order unit snap ps qs rest s more = record {
  header = IsHeader-front order xs ys unit snap s.header;
  records = subst (λ (t : List ℕ). AreRecords order unit t (ps ++ qs) rest) (sym (drop-append-le 24 xs ys s.header.size))
      (AreRecords-join order unit (drop 24 xs) ys ps qs rest s.records more);
}
