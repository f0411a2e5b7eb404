-- What is read of a text, and why one is not read as an expression.
use Rattle.std.proofs.Common.{◌≡◌, ◌<◌, ◌≤◌, ◌↔◌, ◌⊎◌, inl, inr, ℕ, List, length, Result, Ok, Err, ap, sym, subst}
use Rattle.std.proofs.lemmas.Bool.{cases_lt}
use Rattle.std.specs.Prelude.{IsErrOf, IsUtf8}
use Rattle.filter_tree.specs.Trees.{Tree}
use Rattle.filterlang.specs.Texts.{ReadsAs, IsRefusalOf}
use Rattle.filterlang.specs.declared.fault.Fault.{Fault}
use Rattle.filterlang.specs.declared.fault.Fault.TheVariants.{NoMemory, TextTooLong}
use Rattle.filtergen.specs.declared.expression.ExpressionFault.TheVariants.{Text}
use Rattle.bpftap_c.specs.declared.outcome.Failure.TheVariants.{Expression}
use Rattle.bpftap_c.specs.Texts.{IsRead, IsUnread}

abbrev fault_in : {A : Type 0} → Result A Fault → Fault
fault_in (Ok x) = NoMemory
fault_in (Err fault) = fault

-- an error has one fault, and what is read has none
same_fault : {A : Type 0} (fault other : Fault) → IsErrOf {T = A} (Err fault) other → fault ≡ other
same_fault fault other is = ap fault_in is

not_an_error : {A : Type 0} (x : A) (fault : Fault) → IsErrOf (Ok x) fault → ⊥
not_an_error x fault is = cc

-- the parser's fault, of the text that these bytes are
pub unread : {A : Type 0} (bytes text : List ℕ) (fault : Fault) → text ≡ bytes → IsUtf8 bytes → IsRefusalOf text fault
    → (IsErrOf {T = A} (Err fault) TextTooLong ↔ (8192 < length text))
    → ((tree : Tree) → length text ≤ 8192 → ReadsAs text tree → fault ≡ NoMemory) → IsUnread bytes (Expression (Text fault))
unread bytes text fault is utf8 refused too_long accepted =
    let named : (fault ≡ TextTooLong) ↔ (8192 < length text) = (λ e. too_long.0 (ap Err e), λ long. same_fault fault TextTooLong (too_long.1 long)) in
    subst (λ (t : List ℕ). IsUnread t (Expression (Text fault))) is (subst IsUtf8 (sym is) utf8, named, refused, accepted)

-- the parser's tree, of the text that these bytes are
pub read : {A : Type 0} (x : A) (bytes text : List ℕ) (tree : Tree) → text ≡ bytes
    → (IsErrOf (Ok x) TextTooLong ↔ (8192 < length text)) → ReadsAs text tree → IsRead bytes tree
read x bytes text tree is too_long reads = subst (λ (t : List ℕ). IsRead t tree) is (by_length (cases_lt 8192 (length text)), reads)
  where
    by_length : (8192 < length text) ⊎ (length text ≤ 8192) → length text ≤ 8192
    by_length (inl long) = absurd (not_an_error x TextTooLong (too_long.1 long))
    by_length (inr fits) = fits
