-- What is printed of several captures.
use Rattle.std.proofs.Common.{◌≡◌, ◌≢◌, ℕ, ◌⊎◌, Bool, true, false, List, Option, Some, None, Result, Ok, Err, inl, inr, refl, ap, sym, subst, ◌∙◌}
use Rattle.std.specs.List.{AllByRecursion, Any}
use Rattle.std.specs.Prelude.{IsErr, IsOk}
use Rattle.savefile.specs.declared.fault.Fault.{Fault}
use Rattle.savefile.specs.declared.fault.Fault.TheVariants.{Device}
use Rattle.savefile.specs.declared.header.Header.{Header}
use Rattle.savefile.specs.declared.packet.Packet.{Packet}
use Rattle.savefile.specs.Reader.{IsCause, WasBegun, WasRead}
use Rattle.cli_walk.specs.declared.walk.Visited.{Visited}
use Rattle.cli_walk.specs.Walking.{stop, visited}
use Rattle.cli_answers.specs.declared.lines.Printed.{Printed}
use Rattle.cli_answers.specs.declared.lines.PrintedCaptures.{PrintedCaptures}
use Rattle.cli_answers.specs.declared.lines.PrintedTotals.{PrintedTotals}
use Rattle.cli_answers.specs.declared.printing.Unprinted.{Unprinted}
use Rattle.cli_answers.specs.Lines.{PrintsCapture, PrintsIn, PrintsNext, PrintsPackets, PrintsTotals, no_totals}
use Rattle.cli_answers.proofs.Closing.{read-broke, walked-broke}
use Rattle.cli_answers.proofs.Headers.{broke-off, no-fault, or-opened, totals-handed, walked-opened, went-on}

-- what was printed, by its parts
pub totals-as : {C : Type 0} (t : PrintedTotals C) (opened : Bool) (counts : C) (printed : Result (Unit {0}) Unprinted) → t.opened ≡ opened → t.counts ≡ counts → t.printed ≡ printed →
    t ≡ record { opened = opened; counts = counts; printed = printed }
totals-as {C} t opened counts printed a b c =
    ap (λ (x : Bool). record { opened = x; counts = t.counts; printed = t.printed }) a ∙ ap (λ (x : C). record { opened = opened; counts = x; printed = t.printed }) b
    ∙ ap (λ (x : Result (Unit {0}) Unprinted). record { opened = opened; counts = counts; printed = x }) c

module _ {C : Type 0} (does : List Packet → Option (List ℕ) → Option (List ℕ) → C → Type 0) (begun : List Packet → Option (List ℕ) → Option (List ℕ) → Type 0) (from left : Option (List ℕ)) (header : Header) (old new : Option (List ℕ)) (counts : C) where
  -- the printing broke off
  pub broken-off : {A : Type 0} (read : Result A Fault) (done : Result A Unprinted) (x : A) (u : Unprinted) (packets : List Packet) → read ≡ Ok x → done ≡ Err u → WasBegun from header packets → begun packets old new →
      PrintsPackets does begun from left header old new counts read done
  broken-off read done x u packets reads stops was part = rw (reads, stops) (inl (packets, part, was, refl, refl))

  -- the capture was read to its end
  pub read-whole : {A : Type 0} (read : Result A Fault) (done : Result A Unprinted) (x y : A) (packets : List Packet) → read ≡ Ok x → done ≡ Ok y → does packets old new counts → WasRead from header packets None →
      PrintsPackets does begun from left header old new counts read done
  read-whole read done x y packets reads prints lines was = rw (reads, prints) (inr (packets, lines, inl (None, was, refl), refl))

  -- or not so far
  pub read-part : {A : Type 0} (read : Result A Fault) (done : Result A Unprinted) (fault : Fault) (y : A) (packets : List Packet) → read ≡ Err fault → done ≡ Ok y → does packets old new counts →
      WasBegun from header packets → IsCause from left header packets fault → PrintsPackets does begun from left header old new counts read done
  read-part read done fault y packets reads prints lines was (inl torn) = rw (reads, prints) (inr (packets, lines, inl (Some fault, torn, refl), refl))
  read-part read done fault y packets reads prints lines was (inr (inl (device, taken))) = rw (reads, prints) (inr (packets, lines, inr (was, inl (ap Err device, taken)), refl))
  read-part read done fault y packets reads prints lines was (inr (inr (full, many))) = rw (reads, prints) (inr (packets, lines, inr (was, inr (ap Err full, many)), refl))

-- the header of a capture was read if its reading did not fail
pub has-opened : {R C : Type 0} (left : R → Option (List ℕ)) (from : R) (none : C) (does : List Packet → Option (List ℕ) → Option (List ℕ) → C → Type 0) (begun : List Packet → Option (List ℕ) → Option (List ℕ) → Type 0) (old new : Option (List ℕ)) (p : Printed R C) →
    PrintsCapture left from none does begun old new p → IsOk p.read → p.opened ≡ true
has-opened left from none does begun old new p (inl (fault, unopened, broke, printed, kept, counts, unread)) well = absurd (no-fault p.read fault broke well)
has-opened left from none does begun old new p (inr (opened, header, lines)) well = opened

module _ {R C O : Type 0} (left : R → Option (List ℕ)) (failures : R → ℕ) (none : C) (plus : C → C → C) (prints : ℕ → R → O → O → Printed R C → Type 0) where
  -- a failed device that ended the reading is one of a capture
  pub prints-broke : (captures : List R) (old new : O) (e : PrintedCaptures R C) (n : ℕ) → AllByRecursion (λ (c : R). failures c ≡ 0) captures →
      PrintsIn left failures none plus prints captures old new e → e.read ≡ Err (stop n Device) → Any (λ (c : R). failures c ≢ 0) e.sources.items
  prints-broke captures old new e n fresh (ended, is, walked) device =
      walked-broke {R = R} {S = PrintedTotals C} {O = O} left failures (PrintsNext plus prints) n captures e.sources.items (no_totals none) old e.totals new ended fresh walked
      (read-broke n ended (sym is ∙ device))

  -- Where the header of each capture was read whose reading did not fail, what was printed of captures does not wait.
  module _ (opens : (n : ℕ) (from : R) (old new : O) (p : Printed R C) → prints n from old new p → IsOk p.read → p.opened ≡ true) where
    next-opened : (n : ℕ) (t : PrintedTotals C) (o : O) (from to : R) (t' : PrintedTotals C) (o' : O) →
        PrintsNext plus prints n t o from (visited to (Ok true)) t' o' → t'.opened ≡ true
    next-opened n t o from to t' o' (p, lines, visit, is) =
        let read = went-on p.read p.printed (sym (ap (λ (v : Visited R). v.goes_on) visit)) in
        ap (λ (s : PrintedTotals C). s.opened) is ∙ or-opened t.opened p.opened (opens n from o o' p lines read)

    next-broken : (n : ℕ) (t : PrintedTotals C) (o : O) (from to : R) (t' : PrintedTotals C) (o' : O) →
        PrintsNext plus prints n t o from (visited to (Ok false)) t' o' → IsErr t'.printed
    next-broken n t o from to t' o' (p, lines, visit, is) =
        subst (λ (s : PrintedTotals C). IsErr s.printed) (sym is) (broke-off p.read p.printed (sym (ap (λ (v : Visited R). v.goes_on) visit)))

    -- a header was read, or nothing was done, if no fault ended the reading and all was printed
    opened-or-same : (captures : List R) (old new : O) (e : PrintedCaptures R C) → PrintsIn left failures none plus prints captures old new e →
        IsOk e.read → IsOk e.totals.printed → (e.totals.opened ≡ true) ⊎ (new ≡ old)
    opened-or-same captures old new e (ended, is, walked) read printed =
        walked-opened left failures (PrintsNext plus prints) (λ t. t.opened) (λ t. t.printed) next-opened next-broken
        captures e.sources.items (no_totals none) old e.totals new ended walked (subst (λ r. IsOk r) is read) printed

    pub lines-handed : (contents : O → Option (List ℕ)) (line : C → List ℕ) (waits : O → Bool) (captures : List R) (old mid new : O) (e : PrintedCaptures R C) (printed : Result (Unit {0}) Unprinted) →
        PrintsIn left failures none plus prints captures old mid e → PrintsTotals contents line e.totals mid new printed → (e.totals.opened ≡ true → IsOk printed → waits new ≡ false) →
        waits old ≡ false → IsOk e.read → IsOk printed → waits new ≡ false
    lines-handed contents line waits captures old mid new e printed lines sums handed empty read well =
        totals-handed waits old mid new e.totals.printed printed e.totals.opened (λ unread. (sums.unopened unread).1) (λ broken. (sums.broken broken).0) handed
        (opened-or-same captures old mid e lines read) empty well
