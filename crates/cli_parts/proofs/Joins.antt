-- Parts of LINES that are joined, and why they are not.
use Rattle.std.proofs.Common.{◌≡◌, ◌≢◌, ℕ, ◌<◌, Bool, List, [], ◌∷◌, length, All, Option, refl, sym, subst, arith}
use Rattle.pcap_parts.specs.declared.part.PartCut.{PartCut}
use Rattle.pcap_parts.specs.declared.select.Selection.{Selection}
use Rattle.pcap_parts.specs.declared.writing.WriteFault.{WriteFault}
use Rattle.pcap_parts.specs.declared.writing.WriteFault.TheVariants.{OtherHeader, OtherSize, Unread, Output, NoMemory}
use Rattle.pcap_parts.specs.Writing.{Texts, OneOf, HaveOneHeader, IsWriteFault, IsWritten}
use Rattle.cli_parts.specs.Selected.{IsSelection}
use Rattle.cli_parts.specs.declared.joining.JoinFault.TheVariants.{Sizes, Writing}
use Rattle.cli_parts.specs.Joined.{HasSize, IsApart, IsBefore, IsJoinFault, IsJoined, IsKept, IsSizeFault}

some_of : (parts : List PartCut) → parts ≢ [] → 0 < length parts
some_of [] some = absurd (some refl)
some_of (p ∷ ps) some = omega arith

-- there is a part
pub some_parts : (lines : List ℕ) (selection : Selection) (parts : List PartCut) → IsSelection lines selection → parts ≡ selection.parts.items → 0 < length parts
some_parts lines selection parts (all, said, (takes, whole, some)) same = subst (λ (ps : List PartCut). 0 < length ps) (sym same) (some_of selection.parts.items some)

pub sizes_fault : {E : Type 0} (text : Texts) (lines : List ℕ) (selection : Selection) (parts : List PartCut) (fault : WriteFault E)
    → IsSelection lines selection → parts ≡ selection.parts.items → OneOf (IsSizeFault text fault) parts → IsJoinFault text lines (Sizes fault)
sizes_fault text lines selection parts fault is same one = (selection, is, subst (OneOf (IsSizeFault text fault)) same one)

pub writing_fault : {E : Type 0} (text : Texts) (lines : List ℕ) (selection : Selection) (parts : List PartCut) (fault : WriteFault E)
    → IsSelection lines selection → parts ≡ selection.parts.items → IsWriteFault text parts fault → IsJoinFault text lines (Writing fault)
writing_fault text lines selection parts fault is same why = (selection, is, subst (λ (ps : List PartCut). IsWriteFault text ps fault) same why)

pub kept_of : {W : Type 0} (text : Texts) (lines : List ℕ) (selection : Selection) (parts : List PartCut) (old new : W) → IsSelection lines selection
    → parts ≡ selection.parts.items → ((HaveOneHeader text parts → ⊥) → new ≡ old) → IsKept text lines old new
kept_of text lines selection parts old new is same kept =
    (selection, is, subst (λ (ps : List PartCut). (HaveOneHeader text ps → ⊥) → new ≡ old) same kept)

-- a header is another one before anything is written
pub untouched_before : {E X : Type 0} (text : Texts) (parts : List PartCut) (fault : WriteFault E) (old new : X) → IsWriteFault text parts fault
    → ((HaveOneHeader text parts → ⊥) → new ≡ old) → IsBefore (Writing fault) → new ≡ old
untouched_before text parts (OtherHeader path) old new (one, other) go before = go other
untouched_before text parts (OtherSize path) old new why go before = absurd before
untouched_before text parts (Unread path failure) old new why go before = absurd before
untouched_before text parts Output old new why go before = absurd before
untouched_before text parts NoMemory old new why go before = absurd before

pub joined_of : (text : Texts) (apart : List ℕ → Bool) (old new : Option (List ℕ)) (lines : List ℕ) (selection : Selection) (parts : List PartCut)
    → IsSelection lines selection → parts ≡ selection.parts.items → All (IsApart apart) parts → All (HasSize text) parts → IsWritten text old new parts
    → IsJoined text apart old new lines selection.whole.fault
joined_of text apart old new lines selection parts is same others sizes written = record {
  selection = selection;
  selects = is;
  others = subst (λ (ps : List PartCut). All (IsApart apart) ps) same others;
  sizes = subst (λ (ps : List PartCut). All (HasSize text) ps) same sizes;
  written = subst (λ (ps : List PartCut). IsWritten text old new ps) same written;
  ends = refl;
}
