-- Calls and their results, as the table and the cache change.
use Rattle.std.proofs.Common.{◌≡◌, ℕ, ◌<◌, Bool, true, false, cond, List, refl, sym, ap, ◌∙◌, arith}
use Rattle.std.specs.Prelude.{Option, Some, None, Result, Ok, Err, IfOk, IfSome, All, length, max, slice_get}
use Rattle.std.proofs.lemmas.List.Elements.{All-weaker}
use Rattle.filter_bdd.specs.declared.answer.Answer.{Answer}
use Rattle.filter_bdd.specs.declared.answer.Answer.TheVariants.{Final, Never}
use Rattle.filter_bdd.specs.declared.table.Node.{Node}
use Rattle.filter_bdd.specs.declared.cache.Call.{Call}
use Rattle.filter_bdd.specs.declared.cache.Computed.{Computed}
use Rattle.filter_bdd.specs.Answers.{outcome, after, ite_answer}
use Rattle.filter_bdd.specs.Diagrams.{answer, Gives, Grew}
use Rattle.filter_bdd.specs.Calls.{call_answer, IsInside, IsResult, AreResults}
use Rattle.filter_bdd.proofs.Tables.{grown-answer, grown-length}

pub map-ok : {T E : Type 0} (r : Result T E) {P Q : T → Type 0} → ((x : T) → P x → Q x) → IfOk r P → IfOk r Q
map-ok (Ok x) f h = f x h
map-ok (Err e) f h = tt

-- what a node gives it gives in a table that grew
pub gives-grown : (a b : List Node) (f : (ℕ → Bool) → Answer) (i : ℕ) → Grew a b → Gives a f i → Gives b f i
gives-grown a b f i g h =
    let more = grown-length a b g in
    let inside = h.inside in
    record { inside = omega arith; says = λ v. grown-answer v a b g i inside ∙ h.says v }

pub gives-as : (a : List Node) (f g : (ℕ → Bool) → Answer) (i : ℕ) → ((v : ℕ → Bool) → f v ≡ g v) → Gives a f i → Gives a g i
gives-as a f g i same h = record { inside = h.inside; says = λ v. h.says v ∙ same v }

pub inside_grown : (a b : List Node) (k : Call) → Grew a b → IsInside a k → IsInside b k
inside_grown a b k g h =
    let more = grown-length a b g in
    let first = h.first in
    let second = h.second in
    let third = h.third in
    record { first = omega arith; second = omega arith; third = omega arith }

-- what a call answers is the same in a table that grew
pub call-on : (a b : List Node) (k : Call) → Grew a b → IsInside a k → (v : ℕ → Bool) → call_answer a k v ≡ call_answer b k v
call-on a b k g p v =
    ap (λ n. outcome k.operation n (answer a v k.second) (answer a v k.third)) (sym (grown-answer v a b g k.first p.first))
    ∙ ap (λ n. outcome k.operation (answer b v k.first) n (answer a v k.third)) (sym (grown-answer v a b g k.second p.second))
    ∙ ap (λ n. outcome k.operation (answer b v k.first) (answer b v k.second) n) (sym (grown-answer v a b g k.third p.third))

pub call-back : (a b : List Node) (k : Call) (i : ℕ) → Grew a b → IsInside a k → Gives b (call_answer b k) i → Gives b (call_answer a k) i
call-back a b k i g p h = gives-as b (call_answer b k) (call_answer a k) i (λ v. sym (call-on a b k g p v)) h

pub call-of : (a b : List Node) (k : Call) (i : ℕ) → Grew a b → IsInside a k → Gives b (call_answer a k) i → IsResult b k i
call-of a b k i g p h = gives-as b (call_answer a k) (call_answer b k) i (call-on a b k g p) h

entry-grown : (a b : List Node) → Grew a b → (e : Option Computed) → IfSome e (λ c. IsInside a c.call × IsResult a c.call c.place) → IfSome e (λ c. IsInside b c.call × IsResult b c.call c.place)
entry-grown a b g None h = tt
entry-grown a b g (Some c) h = (inside_grown a b c.call g h.0, call-of a b c.call c.place g h.0 (gives-grown a b (call_answer a c.call) c.place g h.1))

pub results-grown : (a b : List Node) (es : List (Option Computed)) → Grew a b → AreResults a es → AreResults b es
results-grown a b es g h = All-weaker (λ e. IfSome e (λ c. IsInside a c.call × IsResult a c.call c.place)) (λ e. IfSome e (λ c. IsInside b c.call × IsResult b c.call c.place)) (entry-grown a b g) es h

after-none : (a : Answer) → after 0 a ≡ a
after-none Never = refl
after-none (Final need says) =
    let most : max 0 need ≡ need = omega arith in
    ap (λ n. Final n says) most

-- a node that says whether a bit is 1 chooses as the bit does
pub bit-chosen : (b : Bool) (t u w x y : Answer) → t ≡ cond b u w → u ≡ Final 0 true → w ≡ Final 0 false → ite_answer t x y ≡ cond b x y
bit-chosen true t u w x y is p q = ap (λ a. ite_answer a x y) (is ∙ p) ∙ after-none x
bit-chosen false t u w x y is p q = ap (λ a. ite_answer a x y) (is ∙ q) ∙ after-none y

pub cond-as : (b : Bool) (x y u w : Answer) → x ≡ u → y ≡ w → cond b x y ≡ cond b u w
cond-as true x y u w p q = p
cond-as false x y u w p q = q
