-- Packets in full of captures, one after the other.
use Rattle.std.proofs.Common.{◌≡◌, ℕ, ◌+◌, Bool, true, false, List, [], ◌∷◌, length, Option, Result, Bor, arith, refl, sym, subst, slice_get}
use Rattle.std.specs.List.{AllByRecursion}
use Rattle.line_text.specs.declared.form.LineForm.{LineForm}
use Rattle.savefile.specs.declared.fault.Fault.{Fault}
use Rattle.fault_report.specs.Reports.{TellsAmong, TellsMore}
use Rattle.fault_report.specs.declared.report.Report.{Report}
use Rattle.fault_report.proofs.Telling.{among-more, more-among, more-more, more-none}
use Rattle.cli_answers.specs.declared.filter.AskedFilter.{AskedFilter}
use Rattle.cli_answers.specs.declared.form.PacketForm.{PacketForm}
use Rattle.cli_answers.specs.declared.printing.Unprinted.{Unprinted}
use Rattle.cli_answers.specs.Telling.{IsFaultReport, IsUnprintedReport}
use Rattle.cli_text.specs.Status.{greater}
use Rattle.cli_text.specs.declared.status.Status.{Status}
use Rattle.cli_text.specs.declared.status.Status.TheVariants.{Clean}
use Rattle.cli_explain.specs.declared.outcome.FullEnd.{FullEnd}
use Rattle.cli_explain.specs.Explaining.{FindsIn, FindsOne}
use Rattle.cli_explain.specs.Telling.{IsNoPacketReport, TellsFound}

-- what is among the reports of a capture is among more of them
pub found-later : {A : Type 0} (among among' : (Report → Type 0) → Type 0) (paths : List (Bor (List ℕ))) (n place : ℕ) (read : Result Bool Fault) (printed : Result A Unprinted) →
    ((says : Report → Type 0) → among says → among' says) → TellsFound among paths n place read printed → TellsFound among' paths n place read printed
found-later among among' paths n place read printed on (unprinted, (none, fault)) = (
  λ why is told. on (IsUnprintedReport why) (unprinted why is told),
  (λ is. on (IsNoPacketReport paths n place) (none is), λ f is. on (IsFaultReport paths n f (slice_get paths n)) (fault f is)),
)

-- what is told of a failed device holds later too, where no failure is forgotten
pub one-later : {R : Type 0} (left : R → Option (List ℕ)) (failed later : Bool) (among among' : (Report → Type 0) → Type 0) (paths : List (Bor (List ℕ))) (form : PacketForm) (n : ℕ) (filter : AskedFilter) (first last : ℕ) (from : R) (old new : Option (List ℕ)) (end : FullEnd) →
    (failed ≡ true → later ≡ true) → ((says : Report → Type 0) → among says → among' says)
    → FindsOne left failed among paths form n filter first last from old new end → FindsOne left later among' paths form n filter first last from old new end
one-later left failed later among among' paths form n filter first last from old new end stays on (found, finds, status, goes_on, broke, told) =
    (found, finds, status, goes_on, (λ device. stays (broke device)), found-later among among' paths n first found.read found.printed on told)

-- the first of some works, and so do the others
pub works-next : {R : Type 0} (P : R → Type 0) (xs : List R) (x : R) (rest : List R) → xs ≡ x ∷ rest → AllByRecursion P xs → P x × AllByRecursion P rest
works-next P xs x rest is all = subst (AllByRecursion P) is all

module _ {R O E : Type 0} (left : R → Option (List ℕ)) (contents : O → Option (List ℕ)) (hints broken : E → Bool) (errors : E → Option (List ℕ)) (lines : E → LineForm) (paths : List (Bor (List ℕ))) (form : PacketForm) (filter : AskedFilter) (first last : ℕ) (all : List R) (start : O) (begun : E) where
  -- it was reported since the beginning
  abbrev pub Among : E → (Report → Type 0) → Type 0
  Among err says = TellsAmong hints broken errors lines says begun err

  -- what the captures that are left come to is what all come to, where no failure so far is forgotten, and no report
  abbrev pub Leads : Bool → E → ℕ → Bool → Status → List R → O → Type 0
  Leads failed err n goes_on status rest out =
      (later : Bool) → (failed ≡ true → later ≡ true) → (err' : E) → TellsMore hints broken errors lines err err' → (new : O) (ended : Status)
      → FindsIn left contents later (Among err') paths form filter first last n goes_on status rest out new ended
      → FindsIn left contents later (Among err') paths form filter first last 0 true Clean all start new ended

  -- at the beginning all are left
  pub leads-first : (failed : Bool) (rest : List R) → rest ≡ all → Leads failed begun 0 true Clean rest start
  leads-first failed rest is = λ later kept err' more new ended finds. subst (λ captures. FindsIn left contents later (Among err') paths form filter first last 0 true Clean captures start new ended) is finds

  -- with one capture more
  pub leads-on : (failed failed' : Bool) (err err' : E) (n n' : ℕ) (status status' : Status) (capture : R) (rest rest' : List R) (out out' : O) (end : FullEnd) → rest ≡ capture ∷ rest' → n' ≡ n + 1
      → status' ≡ greater status end.status → (failed ≡ true → failed' ≡ true) → TellsMore hints broken errors lines begun err → TellsMore hints broken errors lines err err'
      → FindsOne left failed' (λ says. TellsAmong hints broken errors lines says err err') paths form n filter first last capture (contents out) (contents out') end
      → Leads failed err n true status rest out → Leads failed' err' n' end.goes_on status' rest' out'
  leads-on failed failed' err err' n n' status status' capture rest rest' out out' end is next greatest stays before told one leads = λ later kept last' more new ended finds.
      leads later (λ was. kept (stays was)) last' (more-more hints broken errors lines err err' last' told more) new ended
      (subst (λ rs. FindsIn left contents later (Among last') paths form filter first last n true status rs out new ended) (sym is) (
        end,
        out',
        one-later left failed' later (λ says. TellsAmong hints broken errors lines says err err') (Among last') paths form n filter first last capture (contents out) (contents out') end kept
            (λ says among. more-among hints broken errors lines says begun err last' before (among-more hints broken errors lines says err err' last' among more)) one,
        subst (λ k. FindsIn left contents later (Among last') paths form filter first last k end.goes_on (greater status end.status) rest' out' new ended) next
            (subst (λ s. FindsIn left contents later (Among last') paths form filter first last n' end.goes_on s rest' out' new ended) greatest finds),
      ))

  -- a capture that is not read changes nothing
  pub leads-past : (failed failed' : Bool) (err : E) (n : ℕ) (status : Status) (rest rest' : List R) (out : O) → (failed ≡ true → failed' ≡ true)
      → Leads failed err n false status rest out → Leads failed' err n false status rest' out
  leads-past failed failed' err n status rest rest' out stays leads = λ later kept err' more new ended finds. leads later (λ was. kept (stays was)) err' more new ended finds

  -- where no capture is left nothing more is printed
  pub finds-none : (failed : Bool) (among : (Report → Type 0) → Type 0) (goes_on : Bool) (n : ℕ) (status : Status) (rest : List R) (out : O) → length rest ≡ 0
      → FindsIn left contents failed among paths form filter first last n goes_on status rest out out status
  finds-none failed among false n status rest out none = (refl, refl)
  finds-none failed among true n status [] out none = (refl, refl)
  finds-none failed among true n status (x ∷ xs) out none = absurd (omega (arith, none))

  pub leads-all : (failed goes_on : Bool) (err : E) (n : ℕ) (status : Status) (rest : List R) (out : O) → length rest ≡ 0 → Leads failed err n goes_on status rest out
      → FindsIn left contents failed (Among err) paths form filter first last 0 true Clean all start out status
  leads-all failed goes_on err n status rest out none leads =
      leads failed (λ was. was) err (more-none hints broken errors lines err) out status (finds-none failed (Among err) goes_on n status rest out none)
