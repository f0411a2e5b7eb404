-- Bytes that are copied, call after call.
use Rattle.std.proofs.Common.{◌≡◌, ℕ, ◌+◌, ◌-◌, ◌<◌, ◌≤◌, List, [], ◌++◌, length, take, drop, Option, Some, None, IfSome, refl, sym, ap, subst, ◌∙◌, inl, inr, append_assoc, append-nil, length-append, arith, length-drop, take-append-drop}
use Rattle.std.proofs.lemmas.List.{take_all}
use Rattle.std.proofs.KnownBytes.{Appends-nil, Appends-trans, Consumes-trans}
use Rattle.std.specs.Io.KnownBytes.{Appends, Consumes, IsAtEnd}
use Rattle.pcap_parts.specs.declared.copy.CopyFault.{CopyFault}
use Rattle.pcap_parts.specs.declared.copy.CopyFault.TheVariants.{Input, Size, Output}
use Rattle.pcap_parts.specs.Copying.{Copies, IfSize, IsOtherSize}

-- so far these bytes of a text were taken, and the rest is left
pub record IsLeft (old new : Option (List ℕ)) (text rest : List ℕ) : Type 0 where
  pub front : List ℕ
  pub whole : text ≡ front ++ rest
  pub appends : Appends old new front

pub IsLeft-none : (o : Option (List ℕ)) (text : List ℕ) → IsLeft o o text text
IsLeft-none o text = record { front = []; whole = refl; appends = Appends-nil o }

IsLeft-more : (a b c : Option (List ℕ)) (text rest : List ℕ) (n : ℕ) → IsLeft a b text rest → Appends b c (take n rest) → IsLeft a c text (drop n rest)
IsLeft-more a b c text rest n left next = record {
  front = left.front ++ take n rest;
  whole = left.whole ∙ ap (λ (t : List ℕ). left.front ++ t) (sym (take-append-drop n rest)) ∙ sym (append_assoc left.front (take n rest) (drop n rest));
  appends = Appends-trans a b c left.front (take n rest) left.appends next;
}

pub IsLeft-slice : (a b c : Option (List ℕ)) (text rest : List ℕ) (n : ℕ) → n ≤ length rest → IsLeft a b text rest → Appends b c (take n rest) → IsLeft a c text (take (length rest - n) (drop n rest))
IsLeft-slice a b c text rest n inside left next =
    subst (IsLeft a c text) (sym (take_all (length rest - n) (drop n rest) (omega (arith, length-drop n rest)))) (IsLeft-more a b c text rest n left next)

-- nothing is left
pub IsLeft-all : (a b : Option (List ℕ)) (text rest : List ℕ) → IsLeft a b text rest → rest ≡ [] → Appends a b text
IsLeft-all a b text rest left none =
    subst (Appends a b) (sym (left.whole ∙ ap (λ (t : List ℕ). left.front ++ t) none ∙ append-nil left.front)) left.appends

-- a read that gave nothing at the end
pub at_end : (a b : Option (List ℕ)) → Consumes a b [] → IsAtEnd b → IfSome a (λ xs. xs ≡ [])
at_end None b gave ended = tt
at_end (Some xs) None gave ended = absurd gave
at_end (Some xs) (Some ys) gave ended = gave ∙ ended

pub if_size : (A B : Type 0) (fault : CopyFault) → (A → B) → IfSize A fault → IfSize B fault
if_size A B Size go a = go a
if_size A B Input go a = tt
if_size A B Output go a = tt

-- less was left than was wanted
pub too_short : (a b : Option (List ℕ)) (bytes : List ℕ) (count : ℕ) → Consumes a b bytes → length bytes < count → IfSome b (λ ys. ys ≡ []) → IfSome a (λ xs. length xs < count)
too_short None b bytes count gave few none = tt
too_short (Some xs) None bytes count gave few none = absurd gave
too_short (Some xs) (Some ys) bytes count gave few none =
    omega (arith, ap length gave, length-append bytes ys, ap length none, few)

-- ---- The size of a file

pub few_wanted : (a : Option (List ℕ)) (count : ℕ) → count < 24 → IfSome a (IsOtherSize count)
few_wanted None count few = tt
few_wanted (Some xs) count few = inl few

pub short_header : (a : Option (List ℕ)) (count : ℕ) → 24 ≤ count → IfSome a (λ xs. length xs < 24) → IfSome a (IsOtherSize count)
short_header None count many short = tt
short_header (Some xs) count many short = inr (λ is. absurd (omega (arith, is, many, short)))

pub short_body : (a b : Option (List ℕ)) (header : List ℕ) (after count : ℕ) → length header + after ≡ count → Consumes a b header
    → IfSome b (λ ys. length ys < after) → IfSome a (IsOtherSize count)
short_body None b header after count sum gave short = tt
short_body (Some xs) None header after count sum gave short = absurd gave
short_body (Some xs) (Some ys) header after count sum gave short =
    inr (λ is. absurd (omega (arith, is, sum, short, ap length gave, length-append header ys)))

pub long_body : (a b c d : Option (List ℕ)) (header body more : List ℕ) (count : ℕ) → length header + length body ≡ count → Consumes a b header → Consumes b c body
    → Consumes c d more → 0 < length more → IfSome a (IsOtherSize count)
long_body None b c d header body more count sum first second third some = tt
long_body (Some xs) None c d header body more count sum first second third some = absurd first
long_body (Some xs) (Some ys) None d header body more count sum first second third some = absurd second
long_body (Some xs) (Some ys) (Some zs) None header body more count sum first second third some = absurd third
long_body (Some xs) (Some ys) (Some zs) (Some ws) header body more count sum first second third some =
    inr (λ is. absurd (omega (arith, is, sum, some, ap length first, ap length second, ap length third, length-append header ys, length-append body zs, length-append more ws)))

pub copied_whole : (a b c d t u : Option (List ℕ)) (header body : List ℕ) (count : ℕ) → length header ≡ 24 → length header + length body ≡ count
    → Consumes a b header → Consumes b c body → Consumes c d [] → IsAtEnd d → Appends t u body → Copies a d t u count
copied_whole a b c d t u header body count size sum first second third ended took = record {
  header = header;
  body = body;
  header_size = size;
  size = length-append header body ∙ sum;
  given = subst (Consumes a d) (append-nil (header ++ body)) (Consumes-trans a c d (header ++ body) [] (Consumes-trans a b c header body first second) third);
  ended = ended;
  taken = took;
}
