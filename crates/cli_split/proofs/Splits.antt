-- How a split that came to its end was one.
use Rattle.std.proofs.Common.{◌≡◌, ◌<◌, ℕ, get_or, zero, true, List, [], ◌∷◌, length, refl, sym, ap, ◌∙◌, subst, arith, Option, Ok, Err, inr}
use Rattle.std.specs.List.{AllZip, remove}
use Rattle.savefile.specs.declared.fault.Fault.{Fault}
use Rattle.savefile.specs.declared.header.Order.{Order}
use Rattle.savefile.specs.declared.header.Unit.{Unit as TimeUnit}
use Rattle.savefile.specs.declared.packet.Packet.{Packet}
use Rattle.cli_split.specs.declared.part.Part.{Part}
use Rattle.cli_split.specs.declared.split.SplitEnd.{SplitEnd}
use Rattle.cli_split.specs.declared.split.Stop.TheVariants.{AtHeader}
use Rattle.cli_split.specs.Reading.{ReadsOne, ReadsAll}
use Rattle.cli_split.specs.Splitting.{Splits, WritesAll, passes_header}
use Rattle.cli_split.specs.Writing.{IsLeft, IsWritten}

-- a list is its first item and what is left without it
first-taken : {X : Type 0} (xs : List X) (x : X) → 0 < length xs → x ≡ get_or xs 0 x → xs ≡ x ∷ remove xs 0
first-taken [] x some is = absurd (omega (arith, some))
first-taken (y ∷ xs) x some is = ap (λ z. z ∷ xs) (sym is)

pub first-removed : {X : Type 0} (xs rest : List X) (x : X) → 0 < length xs → x ≡ get_or xs 0 x → rest ≡ remove xs 0 → xs ≡ x ∷ rest
first-removed xs rest x some is left = first-taken xs x some is ∙ ap (λ ys. x ∷ ys) (sym left)

-- a list without an item is empty
pub none-there : {X : Type 0} (xs : List X) → length xs ≡ 0 → xs ≡ []
none-there [] none = refl
none-there (x ∷ xs) none = absurd (omega (arith, none))

module _ {R W : Type 0} (left : R → Option (List ℕ)) (broken : R → ℕ) (taken : W → Option (List ℕ)) (name : W → List ℕ) (failures : W → ℕ) (captures : List R) (parts : List (Part W)) (order : Order) (unit : TimeUnit)
    (end : SplitEnd R W) where
  -- there is no capture
  pub no-capture : captures ≡ [] → end.sources.items ≡ [] → end.end ≡ Ok tt → AllZip IsLeft parts end.parts.items → Splits left broken taken name failures captures parts order unit end
  no-capture none back whole each = subst (λ cs. Splits left broken taken name failures cs parts order unit end) (sym none)
      (record { packets = []; reads = subst (λ ts. ReadsAll left broken 0 0 [] ts [] end.end) (sym back) (refl, whole); writes = each })

  -- the header of the first one was not read
  pub unread-first : (s t : R) (rest : List R) (fault : Fault) → captures ≡ s ∷ rest → end.sources.items ≡ t ∷ rest → end.end ≡ Err (AtHeader zero fault) → ReadsOne left broken s t 0 0 [] (Err (AtHeader zero fault))
      → AllZip IsLeft parts end.parts.items → Splits left broken taken name failures captures parts order unit end
  unread-first s t rest fault some back stops r each = subst (λ cs. Splits left broken taken name failures cs parts order unit end) (sym some)
      (record {
        packets = [];
        reads = subst (λ ts. ReadsAll left broken 0 0 (s ∷ rest) ts [] end.end) (sym back)
            ([], [], refl, inr (AtHeader zero fault, stops, subst (λ e. ReadsOne left broken s t 0 0 [] e) (sym stops) r, refl, refl));
        writes = subst (λ b. WritesAll taken name failures order unit [] b parts end.parts.items) (sym (ap passes_header stops)) each;
      })

  -- it was read
  pub read-first : (s : R) (rest : List R) (packets : List Packet) → captures ≡ s ∷ rest → ReadsAll left broken (length packets) 0 (s ∷ rest) end.sources.items packets end.end
      → passes_header end.end ≡ true → AllZip (IsWritten taken name failures order unit packets) parts end.parts.items → Splits left broken taken name failures captures parts order unit end
  read-first s rest packets some reads passes each = subst (λ cs. Splits left broken taken name failures cs parts order unit end) (sym some)
      (record { packets = packets; reads = reads; writes = subst (λ b. WritesAll taken name failures order unit packets b parts end.parts.items) (sym passes) each })
