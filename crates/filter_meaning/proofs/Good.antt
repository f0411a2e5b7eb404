-- What the laws say of one test or value, for two packets at once, and that it goes over from parts to what is made of them.
use Rattle.std.proofs.Common.{◌≡◌, ℕ, ◌+◌, ◌<◌, ◌≤◌, ◌⊎◌, inl, inr, Bool, true, false, List, [], ◌∷◌, ◌++◌, length, take, drop, max, Option, Some, None, Ok, Err, refl, sym, ap, ◌∙◌, append_assoc, nat_le, if◌then◌else◌, arith}
use Rattle.std.specs.Prelude.{Result, option_and_then}
use Rattle.std.specs.List.{AllByRecursion}
use Rattle.std.proofs.lemmas.Bool.Decides.{nat_tests}
use Rattle.bpfvm.specs.Machine.{number_at, big_endian}
use Rattle.filter_meaning.specs.declared.verdict.Verdict.{Verdict}
use Rattle.filter_meaning.specs.declared.verdict.Verdict.TheVariants.{Yes, No, Abort}
use Rattle.filter_meaning.specs.declared.cause.AbortCause.{AbortCause}
use Rattle.filter_meaning.specs.declared.cause.AbortCause.TheVariants.{NotCaptured, ZeroDivisor}
use Rattle.filter_meaning.specs.declared.frame.Look.{Look}
use Rattle.filter_meaning.specs.declared.frame.Look.TheVariants.{Bytes, Length}
use Rattle.filter_meaning.specs.Meaning.{Packet, and_then, or_else, decided, check}
use Rattle.filter_meaning.specs.Looks.{Asked, asked, Found, found, first_uncaptured, or_cause, after_yes, after_no, both, either, after_number, then_found, after_number_asked, then_asked, bytes_found, field, verdict_of}
use Rattle.filter_meaning.specs.Laws.{IsSameAt, AgreeOn, IsThere, AreThere, EndsMissing, Ends}

-- ---- Lists of looks

all_front : (P : Look → Type 0) (a b : List Look) → AllByRecursion P (a ++ b) → AllByRecursion P a
all_front P [] b all = tt
all_front P (x ∷ a) b all = (all.0, all_front P a b all.1)

all_back : (P : Look → Type 0) (a b : List Look) → AllByRecursion P (a ++ b) → AllByRecursion P b
all_back P [] b all = all
all_back P (x ∷ a) b all = all_back P a b all.1

all_joined : (P : Look → Type 0) (a b : List Look) → AllByRecursion P a → AllByRecursion P b → AllByRecursion P (a ++ b)
all_joined P [] b first second = second
all_joined P (x ∷ a) b first second = (first.0, all_joined P a b first.1 second)

-- what ends after looks that are there
ends_behind : {A : Type 0} (p : Packet) (front : List Look) (answer : Result A AbortCause) (looks : List Look) → AreThere p front → Ends p answer looks → Ends p answer (front ++ looks)
ends_behind p front (Ok answer) looks there ends = all_joined (IsThere p) front looks there ends
ends_behind p front (Err (NotCaptured place)) looks there ends = record {
  front = front ++ ends.front;
  offset = ends.offset;
  size = ends.size;
  order = ap (λ (l : List Look). front ++ l) ends.order ∙ sym (append_assoc front ends.front (Bytes ends.offset ends.size ∷ []));
  there = all_joined (IsThere p) front ends.front there ends.there;
  past = ends.past;
  first = ends.first;
}
ends_behind p front (Err ZeroDivisor) looks there ends = all_joined (IsThere p) front looks there ends

err_ends : (p : Packet) (cause : AbortCause) (looks : List Look) → Ends {A = ℕ} p (Err cause) looks → Ends {A = Bool} p (Err cause) looks
err_ends p (NotCaptured place) looks ends = ends
err_ends p ZeroDivisor looks ends = ends

-- ---- Good tests and values

abbrev pub err_of : {A : Type 0} → Result A AbortCause → Option AbortCause
err_of (Ok a) = None
err_of (Err cause) = Some cause

-- A test of a packet and of another one, what it means of the first, and what is so where it divides by 0.
pub record Good (p r : Packet) (s t : Asked) (v : Verdict) (Z : Type 0) : Type 0 where
  pub meant : verdict_of s.answer ≡ v
  pub same : AgreeOn p r s.looks → t ≡ s
  pub ends : Ends p s.answer s.looks
  pub zero : err_of s.answer ≡ Some ZeroDivisor → Z

abbrev pub number_in : Result ℕ AbortCause → Option ℕ
number_in (Ok n) = Some n
number_in (Err cause) = None

-- a value
pub record GoodFound (p r : Packet) (f g : Found) (m : Option ℕ) (Z : Type 0) : Type 0 where
  pub meant : number_in f.number ≡ m
  pub same : AgreeOn p r f.looks → g ≡ f
  pub ends : Ends p f.number f.looks
  pub zero : err_of f.number ≡ Some ZeroDivisor → Z

pub weaker : {p r : Packet} {s t : Asked} {v : Verdict} {Y Z : Type 0} → (Y → Z) → Good p r s t v Y → Good p r s t v Z
weaker goes good = record { meant = good.meant; same = good.same; ends = good.ends; zero = λ e. goes (good.zero e) }

pub weaker_found : {p r : Packet} {f g : Found} {m : Option ℕ} {Y Z : Type 0} → (Y → Z) → GoodFound p r f g m Y → GoodFound p r f g m Z
weaker_found goes good = record { meant = good.meant; same = good.same; ends = good.ends; zero = λ e. goes (good.zero e) }

-- ---- and, or

both_by : (p r : Packet) (a : Result Bool AbortCause) (l : List Look) (t s' t' : Asked) (v w : Verdict) (Z : Type 0)
    → Good p r (asked a l) s' v Z → Good p r t t' w Z → Good p r (after_yes a l t) (both s' t') (and_then v w) Z
both_by p r (Ok true) l t s' t' v w Z first second = record {
  meant = second.meant ∙ ap (λ (x : Verdict). and_then x w) first.meant;
  same = λ agree.
      ap (λ (s : Asked). both s t') (first.same (all_front (IsSameAt p r) l t.looks agree))
      ∙ ap (λ (u : Asked). both (asked (Ok true) l) u) (second.same (all_back (IsSameAt p r) l t.looks agree));
  ends = ends_behind p l t.answer t.looks first.ends second.ends;
  zero = second.zero;
}
both_by p r (Ok false) l t s' t' v w Z first second = record {
  meant = ap (λ (x : Verdict). and_then x w) first.meant;
  same = λ agree. ap (λ (s : Asked). both s t') (first.same agree);
  ends = first.ends;
  zero = first.zero;
}
both_by p r (Err cause) l t s' t' v w Z first second = record {
  meant = ap (λ (x : Verdict). and_then x w) first.meant;
  same = λ agree. ap (λ (s : Asked). both s t') (first.same agree);
  ends = first.ends;
  zero = first.zero;
}

pub both_good : {p r : Packet} {s t s' t' : Asked} {v w : Verdict} {Z : Type 0} → Good p r s s' v Z → Good p r t t' w Z → Good p r (both s t) (both s' t') (and_then v w) Z
both_good {p} {r} {s} {t} {s'} {t'} {v} {w} {Z} first second = both_by p r s.answer s.looks t s' t' v w Z first second

either_by : (p r : Packet) (a : Result Bool AbortCause) (l : List Look) (t s' t' : Asked) (v w : Verdict) (Z : Type 0)
    → Good p r (asked a l) s' v Z → Good p r t t' w Z → Good p r (after_no a l t) (either s' t') (or_else v w) Z
either_by p r (Ok false) l t s' t' v w Z first second = record {
  meant = second.meant ∙ ap (λ (x : Verdict). or_else x w) first.meant;
  same = λ agree.
      ap (λ (s : Asked). either s t') (first.same (all_front (IsSameAt p r) l t.looks agree))
      ∙ ap (λ (u : Asked). either (asked (Ok false) l) u) (second.same (all_back (IsSameAt p r) l t.looks agree));
  ends = ends_behind p l t.answer t.looks first.ends second.ends;
  zero = second.zero;
}
either_by p r (Ok true) l t s' t' v w Z first second = record {
  meant = ap (λ (x : Verdict). or_else x w) first.meant;
  same = λ agree. ap (λ (s : Asked). either s t') (first.same agree);
  ends = first.ends;
  zero = first.zero;
}
either_by p r (Err cause) l t s' t' v w Z first second = record {
  meant = ap (λ (x : Verdict). or_else x w) first.meant;
  same = λ agree. ap (λ (s : Asked). either s t') (first.same agree);
  ends = first.ends;
  zero = first.zero;
}

pub either_good : {p r : Packet} {s t s' t' : Asked} {v w : Verdict} {Z : Type 0} → Good p r s s' v Z → Good p r t t' w Z → Good p r (either s t) (either s' t') (or_else v w) Z
either_good {p} {r} {s} {t} {s'} {t'} {v} {w} {Z} first second = either_by p r s.answer s.looks t s' t' v w Z first second

-- ---- What depends on a number

abbrev pub checked : Option ℕ → (ℕ → Verdict) → Verdict
checked None v = Abort
checked (Some n) v = v n

then_by : (p r : Packet) (a : Result ℕ AbortCause) (l : List Look) (g : Found) (next next' : ℕ → Asked) (m : Option ℕ) (v : ℕ → Verdict) (Z : Type 0)
    → GoodFound p r (found a l) g m Z → ((n : ℕ) → Good p r (next n) (next' n) (v n) Z) → Good p r (after_number_asked a l next) (then_asked g next') (checked m v) Z
then_by p r (Ok n) l g next next' m v Z first second = record {
  meant = (second n).meant ∙ ap (λ (x : Option ℕ). checked x v) first.meant;
  same = λ agree.
      ap (λ (f : Found). then_asked f next') (first.same (all_front (IsSameAt p r) l (next n).looks agree))
      ∙ ap (λ (u : Asked). asked u.answer (l ++ u.looks)) ((second n).same (all_back (IsSameAt p r) l (next n).looks agree));
  ends = ends_behind p l (next n).answer (next n).looks first.ends (second n).ends;
  zero = (second n).zero;
}
then_by p r (Err cause) l g next next' m v Z first second = record {
  meant = ap (λ (x : Option ℕ). checked x v) first.meant;
  same = λ agree. ap (λ (f : Found). then_asked f next') (first.same agree);
  ends = err_ends p cause l first.ends;
  zero = first.zero;
}

pub then_good : (p r : Packet) (f g : Found) (next next' : ℕ → Asked) (m : Option ℕ) (v : ℕ → Verdict) (Z : Type 0)
    → GoodFound p r f g m Z → ((n : ℕ) → Good p r (next n) (next' n) (v n) Z) → Good p r (then_asked f next) (then_asked g next') (checked m v) Z
then_good p r f g next next' m v Z first second = then_by p r f.number f.looks g next next' m v Z first second

found_by : (p r : Packet) (a : Result ℕ AbortCause) (l : List Look) (g : Found) (next next' : ℕ → Found) (m : Option ℕ) (k : ℕ → Option ℕ) (Z : Type 0)
    → GoodFound p r (found a l) g m Z → ((n : ℕ) → m ≡ Some n → GoodFound p r (next n) (next' n) (k n) Z)
    → GoodFound p r (after_number a l next) (then_found g next') (option_and_then k m) Z
found_by p r (Ok n) l g next next' m k Z first second =
    let later = second n (sym first.meant) in
    record {
      meant = later.meant ∙ ap (λ (x : Option ℕ). option_and_then k x) first.meant;
      same = λ agree.
          ap (λ (f : Found). then_found f next') (first.same (all_front (IsSameAt p r) l (next n).looks agree))
          ∙ ap (λ (u : Found). found u.number (l ++ u.looks)) (later.same (all_back (IsSameAt p r) l (next n).looks agree));
      ends = ends_behind p l (next n).number (next n).looks first.ends later.ends;
      zero = later.zero;
    }
found_by p r (Err cause) l g next next' m k Z first second = record {
  meant = ap (λ (x : Option ℕ). option_and_then k x) first.meant;
  same = λ agree. ap (λ (f : Found). then_found f next') (first.same agree);
  ends = first.ends;
  zero = first.zero;
}

pub found_good : (p r : Packet) (f g : Found) (next next' : ℕ → Found) (m : Option ℕ) (k : ℕ → Option ℕ) (Z : Type 0)
    → GoodFound p r f g m Z → ((n : ℕ) → m ≡ Some n → GoodFound p r (next n) (next' n) (k n) Z)
    → GoodFound p r (then_found f next) (then_found g next') (option_and_then k m) Z
found_good p r f g next next' m k Z first second = found_by p r f.number f.looks g next next' m k Z first second

-- ---- Bytes, and what is known without a look

pub means : {p r : Packet} {s t : Asked} {v w : Verdict} {Z : Type 0} → v ≡ w → Good p r s t v Z → Good p r s t w Z
means is good = record { meant = good.meant ∙ is; same = good.same; ends = good.ends; zero = good.zero }

number_back : (cause : AbortCause) (m : Option ℕ) → number_in (or_cause cause m) ≡ m
number_back cause None = refl
number_back cause (Some n) = refl

uncaptured_only : (place : ℕ) (m : Option ℕ) (Z : Type 0) → err_of (or_cause (NotCaptured place) m) ≡ Some ZeroDivisor → Z
uncaptured_only place None Z zero = absurd cc
uncaptured_only place (Some n) Z zero = absurd cc

bytes_end : (o n : ℕ) (p : Packet) → Ends p (or_cause (first_uncaptured o p) (number_at p.captured o n)) (Bytes o n ∷ [])
unfolding number_at
bytes_end o n p = by_test (nat_le (o + n) (length p.captured)) (big_endian (take n (drop o p.captured))) refl
  where
    by_test : (b : Bool) (x : ℕ) → nat_le (o + n) (length p.captured) ≡ b → Ends p (or_cause (first_uncaptured o p) (if b then Some x else None)) (Bytes o n ∷ [])
    by_test true x is = (grind (arith, nat_tests), tt)
    by_test false x is = record { front = []; offset = o; size = n; order = refl; there = tt; past = grind (arith, nat_tests); first = refl }

pub bytes_good : (p r : Packet) → length p.captured ≡ length r.captured → (o n : ℕ) (Z : Type 0) → GoodFound p r (bytes_found o n p) (bytes_found o n r) (number_at p.captured o n) Z
bytes_good p r long o n Z = record {
  meant = number_back (first_uncaptured o p) (number_at p.captured o n);
  same = λ agree.
      ap (λ (l : ℕ). found (or_cause (NotCaptured (max o l)) (number_at r.captured o n)) (Bytes o n ∷ [])) (sym long)
      ∙ ap (λ (m : Option ℕ). found (or_cause (first_uncaptured o p) m) (Bytes o n ∷ [])) (sym agree.0);
  ends = bytes_end o n p;
  zero = uncaptured_only (max o (length p.captured)) (number_at p.captured o n) Z;
}

pub known_good : (p r : Packet) (answer : Bool) (Z : Type 0) → Good p r (asked (Ok answer) []) (asked (Ok answer) []) (decided answer) Z
known_good p r answer Z = record { meant = refl; same = λ agree. refl; ends = tt; zero = λ none. absurd cc }

check_checked : (condition : ℕ → Bool) (m : Option ℕ) → checked m (λ n. decided (condition n)) ≡ check condition m
check_checked condition None = refl
check_checked condition (Some n) = refl

pub field_good : (p r : Packet) → length p.captured ≡ length r.captured → (o n : ℕ) (condition : ℕ → Bool) (Z : Type 0)
    → Good p r (field o n condition p) (field o n condition r) (check condition (number_at p.captured o n)) Z
field_good p r long o n condition Z =
    means (check_checked condition (number_at p.captured o n))
    (then_good p r (bytes_found o n p) (bytes_found o n r) (λ x. asked (Ok (condition x)) []) (λ x. asked (Ok (condition x)) []) (number_at p.captured o n)
    (λ x. decided (condition x)) Z (bytes_good p r long o n Z) (λ x. known_good p r (condition x) Z))
