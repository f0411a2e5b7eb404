-- Listeners that are laid out by interface, line after line, and their sinks, handed back.
use Rattle.std.proofs.Common.{◌≡◌, ◌≢◌, ◌+◌, ◌<◌, ◌≤◌, ℕ, zero, suc, Bool, true, false, cond, List, [], ◌∷◌, ◌++◌, All, Some, map, drop, take, set, get_or, length, slice_get, ◌==◌, refl, ap, sym, ◌∙◌, subst, arith, append_assoc, length-append}
use Rattle.std.specs.List.{AllZip, remove}
use Rattle.std.specs.declared.alloc.Global.{Global}
use Rattle.std.specs.declared.vec.Vec.{Vec}
use Rattle.std.proofs.lemmas.List.{append-nil, get_or-set_same, get_or-set_other, length-set, length-take-le, take_all, take_more}
use Rattle.std.proofs.lemmas.List.Elements.{All-head, All-tail}
use Rattle.std.proofs.lemmas.Bool.Decides.{Decides-eqb}
use Rattle.std.proofs.lemmas.Option.{slice_get_within, slice_get-get_or, get_or_from_slice_get}
use Rattle.std.proofs.Math.Seq.{drop-cons}
use Rattle.bpfvm.specs.declared.insn.Insn.{Insn}
use Rattle.replay_types.specs.declared.report.InterfaceReport.{InterfaceReport}
use Rattle.replay_types.specs.declared.report.ListenerReport.{ListenerReport}
use Rattle.replay_types.specs.declared.task.Interface.{Interface}
use Rattle.replay_types.specs.declared.task.Task.{Task}
use Rattle.cli_filter.proofs.Planned.{zip-length, zip-push}
use Rattle.cli_run.specs.declared.plan.RunLine.{RunLine}
use Rattle.cli_run.specs.Bare.{IsBare}
use Rattle.cli_run.specs.Layout.{places_of, those_at, task_of, tasks_of, AreLaidOut, AreSinksOf}

-- ---- two lists, item by item

zip-weaker : {A B : Type 0} (R S : A → B → Type 0) → ((x : A) (y : B) → R x y → S x y) → (xs : List A) (ys : List B) → AllZip R xs ys → AllZip S xs ys
zip-weaker R S weaker [] [] each = each
zip-weaker R S weaker [] (y ∷ ys) each = absurd each
zip-weaker R S weaker (x ∷ xs) [] each = absurd each
zip-weaker R S weaker (x ∷ xs) (y ∷ ys) each = (weaker x y each.0, zip-weaker R S weaker xs ys each.1)

-- what stands beside the i-th
pub zip-at : {A B : Type 0} (R : A → B → Type 0) (xs : List A) (ys : List B) (i : ℕ) (d : B) → AllZip R xs ys → i < length ys → (x : A) × R x (get_or ys i d)
zip-at R [] [] i d each inside = absurd (omega arith)
zip-at R [] (y ∷ ys) i d each inside = absurd each
zip-at R (x ∷ xs) [] i d each inside = absurd each
zip-at R (x ∷ xs) (y ∷ ys) zero d each inside = (x, each.0)
zip-at R (x ∷ xs) (y ∷ ys) (suc i) d each inside = zip-at R xs ys i d each.1 (omega arith)

-- one item is changed
zip-set : {A B : Type 0} (R : A → B → Type 0) (xs : List A) (ys : List B) (n : ℕ) (y : B) → AllZip R xs ys → ((x : A) → R x (get_or ys n y) → R x y) → AllZip R xs (set ys n y)
zip-set R [] [] n y each keeps = each
zip-set R [] (w ∷ ys) n y each keeps = absurd each
zip-set R (x ∷ xs) [] n y each keeps = absurd each
zip-set R (x ∷ xs) (w ∷ ys) zero y each keeps = (keeps x each.0, each.1)
zip-set R (x ∷ xs) (w ∷ ys) (suc n) y each keeps = (each.0, zip-set R xs ys n y each.1 keeps)

false_is_true : false ≡ true → ⊥
false_is_true wrong = cc

-- an item that is there, whatever else it would be
get_or-any : {A : Type 0} (xs : List A) (i : ℕ) (d e : A) → i < length xs → get_or xs i d ≡ get_or xs i e
get_or-any [] i d e inside = absurd (omega arith)
get_or-any (x ∷ xs) zero d e inside = refl
get_or-any (x ∷ xs) (suc i) d e inside = get_or-any xs i d e (omega arith)

drop-all : {A : Type 0} (xs : List A) (k : ℕ) → length xs ≤ k → drop k xs ≡ []
drop-all [] zero past = refl
drop-all [] (suc k) past = refl
drop-all (x ∷ xs) zero past = absurd (omega arith)
drop-all (x ∷ xs) (suc k) past = drop-all xs k (omega arith)

-- So many were made, of the first of all; these are left.
pub record IsMade {A B : Type 0} (R : A → B → Type 0) (all : List A) (made : List B) (left : List A) : Type 0 where
  pub front : List A
  pub whole : all ≡ front ++ left
  pub each : AllZip R front made

-- nothing was made, and all are left
pub none_made : {A B : Type 0} (R : A → B → Type 0) (all : List A) (made : List B) (left : List A) → made ≡ [] → left ≡ all → IsMade R all made left
none_made R all made left none same = record { front = []; whole = sym same; each = subst (λ (t : List _). AllZip R [] t) (sym none) tt }

pub one_made : {A B : Type 0} (R : A → B → Type 0) (all : List A) (made : List B) (left left' : List A) (x : A) (y : B) → left ≡ x ∷ left' → IsMade R all made left → R x y → IsMade R all (made ++ y ∷ []) left'
one_made R all made left left' x y cut is one = record {
  front = is.front ++ x ∷ [];
  whole = is.whole ∙ ap (λ (t : List _). is.front ++ t) cut ∙ sym (append_assoc is.front (x ∷ []) left');
  each = zip-push R is.front made x y is.each one;
}

pub all_made : {A B : Type 0} (R : A → B → Type 0) (all : List A) (made : List B) (left : List A) → length left ≡ 0 → IsMade R all made left → AllZip R all made
all_made R all made [] none is = subst (λ (t : List _). AllZip R t made) (sym (is.whole ∙ append-nil is.front)) is.each
all_made R all made (x ∷ left) none is = absurd (omega arith)

-- ---- those at the lines of an interface

same-place : (i : ℕ) → (i == i) ≡ true
same-place i = (Decides-eqb i i).1 refl

other-place : (place i : ℕ) (t : Bool) → (place == i) ≡ t → i ≢ place → t ≡ false
other-place place i true is other = absurd (other (sym ((Decides-eqb place i).0 is)))
other-place place i false is other = refl

those-here : {X : Type 0} (i : ℕ) (places : List ℕ) (x : X) (xs : List X) → those_at i (i ∷ places) (x ∷ xs) ≡ x ∷ those_at i places xs
those-here i places x xs = ap (λ t. cond t (x ∷ those_at i places xs) (those_at i places xs)) (same-place i)

those-there : {X : Type 0} (i place : ℕ) (places : List ℕ) (x : X) (xs : List X) → i ≢ place → those_at i (place ∷ places) (x ∷ xs) ≡ those_at i places xs
those-there i place places x xs other = ap (λ t. cond t (x ∷ those_at i places xs) (those_at i places xs)) (other-place place i (place == i) refl other)

-- one more, at a line of this interface
those-push_here : {X : Type 0} (i : ℕ) (places : List ℕ) (xs : List X) (x : X) → length xs ≡ length places → those_at i (places ++ i ∷ []) (xs ++ x ∷ []) ≡ those_at i places xs ++ x ∷ []
those-push_here i [] [] x many = those-here i [] x []
those-push_here i [] (y ∷ xs) x many = absurd (omega arith)
those-push_here i (p ∷ places) [] x many = absurd (omega arith)
those-push_here i (p ∷ places) (y ∷ xs) x many = by_test (p == i) (those-push_here i places xs x (omega arith))
  where
    by_test : (t : Bool) → those_at i (places ++ i ∷ []) (xs ++ x ∷ []) ≡ those_at i places xs ++ x ∷ [] →
        cond t (y ∷ those_at i (places ++ i ∷ []) (xs ++ x ∷ [])) (those_at i (places ++ i ∷ []) (xs ++ x ∷ [])) ≡ cond t (y ∷ those_at i places xs) (those_at i places xs) ++ x ∷ []
    by_test true later = ap (λ (t : List _). y ∷ t) later
    by_test false later = later

-- or of another
those-push_there : {X : Type 0} (i place : ℕ) (places : List ℕ) (xs : List X) (x : X) → i ≢ place → length xs ≡ length places → those_at i (places ++ place ∷ []) (xs ++ x ∷ []) ≡ those_at i places xs
those-push_there i place [] [] x other many = those-there i place [] x [] other
those-push_there i place [] (y ∷ xs) x other many = absurd (omega arith)
those-push_there i place (p ∷ places) [] x other many = absurd (omega arith)
those-push_there i place (p ∷ places) (y ∷ xs) x other many =
    ap (λ later. cond (p == i) (y ∷ later) later) (those-push_there i place places xs x other (omega arith))

-- how many they are does not depend on what they are
pub length-those : {X Y : Type 0} (i : ℕ) (places : List ℕ) (xs : List X) (ys : List Y) → length xs ≡ length places → length ys ≡ length places → length (those_at i places xs) ≡ length (those_at i places ys)
length-those i [] xs ys many too = refl
length-those i (p ∷ places) [] ys many too = absurd (omega arith)
length-those i (p ∷ places) (x ∷ xs) [] many too = absurd (omega arith)
length-those i (p ∷ places) (x ∷ xs) (y ∷ ys) many too = by_test (p == i) (length-those i places xs ys (omega arith) (omega arith))
  where
    by_test : (t : Bool) → length (those_at i places xs) ≡ length (those_at i places ys) →
        length (cond t (x ∷ those_at i places xs) (those_at i places xs)) ≡ length (cond t (y ∷ those_at i places ys) (those_at i places ys))
    by_test true later = ap suc later
    by_test false later = later

-- ---- tasks

-- So far the interfaces have the tasks of the lines before; these lines, programs and sinks are left.
pub record AreLaying {R W : Type 0} (places : List ℕ) (tasks : List (Task W)) (captures : List (Vec R Global)) (interfaces : List (Interface R W))
    (lines : List RunLine) (programs : List (List Insn)) (sinks : List W) : Type 0 where
  pub with_captures : AllZip (λ its_captures interface. interface.captures.items ≡ its_captures.items) captures interfaces
  pub with_tasks : (i : ℕ) (d : Interface R W) → i < length interfaces → (get_or interfaces i d).tasks.items ++ those_at i (places_of lines) (tasks_of lines programs sinks) ≡ those_at i places tasks
  pub programs_left : length programs ≡ length lines
  pub sinks_left : length sinks ≡ length lines
  pub there : All (λ line. line.interface < length captures) lines

pub nothing_laid : {R W : Type 0} (captures : List (Vec R Global)) (interfaces : List (Interface R W)) (lines : List RunLine) (programs : List (List Insn)) (sinks : List W) →
    AllZip IsBare captures interfaces → length programs ≡ length lines → length sinks ≡ length lines → All (λ line. line.interface < length captures) lines →
    AreLaying (places_of lines) (tasks_of lines programs sinks) captures interfaces lines programs sinks
nothing_laid captures interfaces lines programs sinks bare programs_left sinks_left there = record {
  with_captures = zip-weaker IsBare _ (λ x y is. is.0) captures interfaces bare;
  with_tasks = λ i d inside. ap (λ (t : List _). t ++ those_at i (places_of lines) (tasks_of lines programs sinks)) (zip-at IsBare captures interfaces i d bare inside).1.1;
  programs_left = programs_left;
  sinks_left = sinks_left;
  there = there;
}

-- the same, with what is left as a loop has it
pub begun : {R W : Type 0} (captures : List (Vec R Global)) (interfaces : List (Interface R W)) (lines ls : List RunLine) (programs ps : List (List Insn)) (sinks ss : List W) →
    ls ≡ lines → ps ≡ programs → ss ≡ sinks →
    AllZip IsBare captures interfaces → length programs ≡ length lines → length sinks ≡ length lines → All (λ line. line.interface < length captures) lines →
    AreLaying (places_of lines) (tasks_of lines programs sinks) captures interfaces ls ps ss
begun {R} {W} captures interfaces lines ls programs ps sinks ss first second third bare programs_left sinks_left there =
    let one = nothing_laid captures interfaces lines programs sinks bare programs_left sinks_left there in
    let two = subst (λ (t : List RunLine). AreLaying (places_of lines) (tasks_of lines programs sinks) captures interfaces t programs sinks) (sym first) one in
    let three = subst (λ (t : List (List Insn)). AreLaying (places_of lines) (tasks_of lines programs sinks) captures interfaces ls t sinks) (sym second) two in
    subst (λ (t : List W). AreLaying (places_of lines) (tasks_of lines programs sinks) captures interfaces ls ps t) (sym third) three

-- the interface that a line names has one task more, and the others have theirs
tasks-at : {R W : Type 0} (places : List ℕ) (tasks : List (Task W)) (captures : List (Vec R Global)) (interfaces : List (Interface R W)) (x : Interface R W)
    (line : RunLine) (lines : List RunLine) (program : List Insn) (programs : List (List Insn)) (sink : W) (sinks : List W) →
    AreLaying places tasks captures interfaces (line ∷ lines) (program ∷ programs) (sink ∷ sinks) →
    x.tasks.items ≡ (get_or interfaces line.interface x).tasks.items ++ task_of line program sink ∷ [] →
    (i : ℕ) (d : Interface R W) → i < length interfaces → (t : Bool) → (i == line.interface) ≡ t →
    (get_or (set interfaces line.interface x) i d).tasks.items ++ those_at i (places_of lines) (tasks_of lines programs sinks) ≡ those_at i places tasks
tasks-at {R} {W} places tasks captures interfaces x line lines program programs sink sinks laying pushed i d inside true test =
    let same : line.interface ≡ i = sym ((Decides-eqb i line.interface).0 test) in
    let here : line.interface < length interfaces = omega arith in
    let old : List (Task W) = (get_or interfaces line.interface x).tasks.items in
    let left : List (Task W) = those_at line.interface (places_of lines) (tasks_of lines programs sinks) in
    let at_line : (get_or (set interfaces line.interface x) line.interface d).tasks.items ++ left ≡ those_at line.interface places tasks =
    ap (λ (y : Interface R W). y.tasks.items ++ left) (get_or-set_same interfaces line.interface x d here)
    ∙ ap (λ (t : List (Task W)). t ++ left) pushed
    ∙ append_assoc old (task_of line program sink ∷ []) left
    ∙ ap (λ (t : List (Task W)). old ++ t) (sym (those-here line.interface (places_of lines) (task_of line program sink) (tasks_of lines programs sinks)))
    ∙ laying.with_tasks line.interface x here in
    subst (λ (k : ℕ). (get_or (set interfaces line.interface x) k d).tasks.items ++ those_at k (places_of lines) (tasks_of lines programs sinks) ≡ those_at k places tasks) same at_line
tasks-at {R} {W} places tasks captures interfaces x line lines program programs sink sinks laying pushed i d inside false test =
    let other : i ≢ line.interface = λ same. absurd (false_is_true (sym test ∙ (Decides-eqb i line.interface).1 same)) in
    ap (λ (y : Interface R W). y.tasks.items ++ those_at i (places_of lines) (tasks_of lines programs sinks)) (get_or-set_other interfaces line.interface i x d other)
    ∙ ap (λ (t : List (Task W)). (get_or interfaces i d).tasks.items ++ t) (sym (those-there i line.interface (places_of lines) (task_of line program sink) (tasks_of lines programs sinks) other))
    ∙ laying.with_tasks i d inside

pub one_laid : {R W : Type 0} (places : List ℕ) (tasks : List (Task W)) (captures : List (Vec R Global)) (interfaces interfaces' : List (Interface R W)) (x : Interface R W)
    (line : RunLine) (lines : List RunLine) (program : List Insn) (programs : List (List Insn)) (sink : W) (sinks : List W) →
    AreLaying places tasks captures interfaces (line ∷ lines) (program ∷ programs) (sink ∷ sinks) →
    interfaces' ≡ set interfaces line.interface x → x.captures.items ≡ (get_or interfaces line.interface x).captures.items →
    x.tasks.items ≡ (get_or interfaces line.interface x).tasks.items ++ task_of line program sink ∷ [] →
    AreLaying places tasks captures interfaces' lines programs sinks
one_laid {R} {W} places tasks captures interfaces interfaces' x line lines program programs sink sinks laying changed kept pushed =
    subst (λ (is : List (Interface R W)). AreLaying places tasks captures is lines programs sinks) (sym changed) (record {
      with_captures = zip-set (λ its_captures interface. interface.captures.items ≡ its_captures.items) captures interfaces line.interface x laying.with_captures (λ its same. kept ∙ same);
      with_tasks = λ i d inside. tasks-at places tasks captures interfaces x line lines program programs sink sinks laying pushed i d (omega (arith, length-set interfaces line.interface x)) (i == line.interface) refl;
      programs_left = omega (arith, laying.programs_left);
      sinks_left = omega (arith, laying.sinks_left);
      there = All-tail (λ line. line.interface < length captures) line lines laying.there;
    })

-- the interface that the next line names is there
pub place_there : {R W : Type 0} (places : List ℕ) (tasks : List (Task W)) (captures : List (Vec R Global)) (interfaces : List (Interface R W))
    (line : RunLine) (lines : List RunLine) (programs : List (List Insn)) (sinks : List W) →
    AreLaying places tasks captures interfaces (line ∷ lines) programs sinks → line.interface < length interfaces
place_there places tasks captures interfaces line lines programs sinks laying =
    let inside = All-head (λ line. line.interface < length captures) line lines laying.there in
    omega (arith, zip-length (λ its_captures interface. interface.captures.items ≡ its_captures.items) captures interfaces laying.with_captures)

-- the same, with the interface as it was before, and with what is left as it was before
pub laid_on : {R W : Type 0} (places : List ℕ) (tasks : List (Task W)) (captures : List (Vec R Global)) (interfaces interfaces' : List (Interface R W)) (x old : Interface R W)
    (ls : List RunLine) (ps : List (List Insn)) (ss : List W) (line : RunLine) (lines : List RunLine) (program : List Insn) (programs : List (List Insn)) (sink : W) (sinks : List W) →
    ls ≡ line ∷ lines → ps ≡ program ∷ programs → ss ≡ sink ∷ sinks → AreLaying places tasks captures interfaces ls ps ss →
    interfaces' ≡ set interfaces line.interface x → old ≡ get_or interfaces line.interface old →
    x.captures.items ≡ old.captures.items → x.tasks.items ≡ old.tasks.items ++ task_of line program sink ∷ [] →
    AreLaying places tasks captures interfaces' lines programs sinks
laid_on {R} {W} places tasks captures interfaces interfaces' x old ls ps ss line lines program programs sink sinks first second third laying changed was kept pushed =
    let one = subst (λ (t : List RunLine). AreLaying places tasks captures interfaces t ps ss) first laying in
    let two = subst (λ (t : List (List Insn)). AreLaying places tasks captures interfaces (line ∷ lines) t ss) second one in
    let three = subst (λ (t : List W). AreLaying places tasks captures interfaces (line ∷ lines) (program ∷ programs) t) third two in
    let here : line.interface < length interfaces = place_there places tasks captures interfaces line lines (program ∷ programs) (sink ∷ sinks) three in
    let same : old ≡ get_or interfaces line.interface x = was ∙ get_or-any interfaces line.interface old x here in
    one_laid places tasks captures interfaces interfaces' x line lines program programs sink sinks three changed
    (kept ∙ ap (λ (i : Interface R W). i.captures.items) same) (pushed ∙ ap (λ (i : Interface R W). i.tasks.items ++ task_of line program sink ∷ []) same)

-- the interface that the next line names is there, whatever is left
pub next_there : {R W : Type 0} (places : List ℕ) (tasks : List (Task W)) (captures : List (Vec R Global)) (interfaces : List (Interface R W))
    (ls : List RunLine) (ps : List (List Insn)) (ss : List W) (line : RunLine) (lines : List RunLine) → ls ≡ line ∷ lines →
    AreLaying places tasks captures interfaces ls ps ss → line.interface < length interfaces
next_there places tasks captures interfaces ls ps ss line lines cut laying =
    place_there places tasks captures interfaces line lines ps ss (subst (λ (t : List RunLine). AreLaying places tasks captures interfaces t ps ss) cut laying)

pub all_laid : {R W : Type 0} (places : List ℕ) (tasks : List (Task W)) (captures : List (Vec R Global)) (interfaces : List (Interface R W))
    (lines : List RunLine) (programs : List (List Insn)) (sinks : List W) →
    AreLaying places tasks captures interfaces lines programs sinks → length lines ≡ 0 → AreLaidOut places tasks captures interfaces
all_laid {R} {W} places tasks captures interfaces [] programs sinks laying none = record {
  with_captures = laying.with_captures;
  with_tasks = λ i interface is.
      ap (λ (y : Interface R W). y.tasks.items) (sym (get_or_from_slice_get interfaces i interface interface is))
      ∙ sym (append-nil (get_or interfaces i interface).tasks.items)
      ∙ laying.with_tasks i interface (slice_get_within interfaces i interface is);
}
all_laid places tasks captures interfaces (line ∷ lines) programs sinks laying none = absurd (omega arith)

-- ---- sinks

-- The sinks of the first k lines were handed back, and the others are left, at the heads of their interfaces' listeners.
pub record AreHandedBack {R W : Type 0} (places : List ℕ) (k : ℕ) (before now : List (InterfaceReport R W)) (sinks : List W) : Type 0 where
  pub many : length now ≡ length before
  pub count : length sinks ≡ k
  pub back : (i : ℕ) (d : InterfaceReport R W) → i < length now →
      those_at i (take k places) sinks ++ map (λ listener. listener.sink) (get_or now i d).listeners.items ≡ map (λ listener. listener.sink) (get_or before i d).listeners.items
  pub left : (i : ℕ) (d : InterfaceReport R W) → i < length now → length (get_or now i d).listeners.items ≡ length (those_at i (drop k places) (drop k places))

pub none_back : {R W : Type 0} (places : List ℕ) (reports : List (InterfaceReport R W)) →
    ((i : ℕ) (report : InterfaceReport R W) → slice_get reports i ≡ Some report → length report.listeners.items ≡ length (those_at i places places)) → AreHandedBack places 0 reports reports []
none_back places reports counts = record {
  many = refl;
  count = refl;
  back = λ i d inside. refl;
  left = λ i d inside. counts i (get_or reports i d) (slice_get-get_or reports i d inside);
}

-- the first of some listeners, and the others
first-gone : {W : Type 0} (old : List (ListenerReport W)) (gone : ListenerReport W) → 0 < length old → gone ≡ get_or old 0 gone → old ≡ gone ∷ remove old 0
first-gone [] gone some is = absurd (omega arith)
first-gone (y ∷ ys) gone some is = ap (λ z. z ∷ ys) (sym is)

-- the next line's interface has a listener left
pub listener_left : {R W : Type 0} (places : List ℕ) (k : ℕ) (before now : List (InterfaceReport R W)) (sinks : List W) (p : ℕ) (d : InterfaceReport R W) →
    AreHandedBack places k before now sinks → k < length places → p ≡ get_or places k 0 → p < length now → 0 < length (get_or now p d).listeners.items
listener_left places k before now sinks p d handed more is inside =
    let rest : drop k places ≡ p ∷ drop (suc k) places = drop-cons places k 0 more ∙ ap (λ q. q ∷ drop (suc k) places) (sym is) in
    let some : length (those_at p (drop k places) (drop k places)) ≡ suc (length (those_at p (drop (suc k) places) (drop (suc k) places))) =
    ap (λ (t : List ℕ). length (those_at p t t)) rest ∙ ap length (those-here p (drop (suc k) places) p (drop (suc k) places)) in
    omega (arith, handed.left p d inside)

module _ {R W : Type 0} (places : List ℕ) (k : ℕ) (before now : List (InterfaceReport R W)) (sinks : List W) (p : ℕ) (x : InterfaceReport R W) (gone : ListenerReport W)
    (handed : AreHandedBack places k before now sinks) (more : k < length places) (is : p ≡ get_or places k 0) (here : p < length now)
    (kept : x.listeners.items ≡ remove (get_or now p x).listeners.items 0) (first : gone ≡ get_or (get_or now p x).listeners.items 0 gone) where
  rest-lines : drop k places ≡ p ∷ drop (suc k) places
  rest-lines = drop-cons places k 0 more ∙ ap (λ q. q ∷ drop (suc k) places) (sym is)

  front-lines : take (k + 1) places ≡ take k places ++ p ∷ []
  front-lines = take_more places k 0 more ∙ ap (λ q. take k places ++ q ∷ []) (sym is)

  many-sinks : length sinks ≡ length (take k places)
  many-sinks = omega (arith, handed.count, length-take-le k places (omega arith))

  was : (get_or now p x).listeners.items ≡ gone ∷ x.listeners.items
  was = first-gone (get_or now p x).listeners.items gone (listener_left places k before now sinks p x handed more is here) first ∙ ap (λ t. gone ∷ t) (sym kept)

  back-at : (i : ℕ) (d : InterfaceReport R W) → i < length now → (t : Bool) → (i == p) ≡ t →
      those_at i (take (k + 1) places) (sinks ++ gone.sink ∷ []) ++ map (λ listener. listener.sink) (get_or (set now p x) i d).listeners.items ≡ map (λ listener. listener.sink) (get_or before i d).listeners.items
  back-at i d inside true test =
      let same : p ≡ i = sym ((Decides-eqb i p).0 test) in
      let before-same : map (λ listener. listener.sink) (get_or before p x).listeners.items ≡ map (λ listener. listener.sink) (get_or before p d).listeners.items =
      ap (λ (r : InterfaceReport R W). map (λ listener. listener.sink) r.listeners.items) (get_or-any before p x d (omega (arith, handed.many))) in
      let at_p : those_at p (take (k + 1) places) (sinks ++ gone.sink ∷ []) ++ map (λ listener. listener.sink) (get_or (set now p x) p d).listeners.items ≡ map (λ listener. listener.sink) (get_or before p d).listeners.items =
      ap (λ (r : InterfaceReport R W). those_at p (take (k + 1) places) (sinks ++ gone.sink ∷ []) ++ map (λ listener. listener.sink) r.listeners.items) (get_or-set_same now p x d here)
      ∙ ap (λ (t : List W). t ++ map (λ listener. listener.sink) x.listeners.items) (ap (λ (ps : List ℕ). those_at p ps (sinks ++ gone.sink ∷ [])) front-lines ∙ those-push_here p (take k places) sinks gone.sink many-sinks)
      ∙ append_assoc (those_at p (take k places) sinks) (gone.sink ∷ []) (map (λ listener. listener.sink) x.listeners.items)
      ∙ ap (λ (ls : List (ListenerReport W)). those_at p (take k places) sinks ++ map (λ listener. listener.sink) ls) (sym was)
      ∙ handed.back p x here
      ∙ before-same in
      subst (λ (j : ℕ). those_at j (take (k + 1) places) (sinks ++ gone.sink ∷ []) ++ map (λ listener. listener.sink) (get_or (set now p x) j d).listeners.items ≡ map (λ listener. listener.sink) (get_or before j d).listeners.items) same at_p
  back-at i d inside false test =
      let other : i ≢ p = λ same. absurd (false_is_true (sym test ∙ (Decides-eqb i p).1 same)) in
      ap (λ (r : InterfaceReport R W). those_at i (take (k + 1) places) (sinks ++ gone.sink ∷ []) ++ map (λ listener. listener.sink) r.listeners.items) (get_or-set_other now p i x d other)
      ∙ ap (λ (t : List W). t ++ map (λ listener. listener.sink) (get_or now i d).listeners.items) (ap (λ (ps : List ℕ). those_at i ps (sinks ++ gone.sink ∷ [])) front-lines ∙ those-push_there i p (take k places) sinks gone.sink other many-sinks)
      ∙ handed.back i d inside

  left-at : (i : ℕ) (d : InterfaceReport R W) → i < length now → (t : Bool) → (i == p) ≡ t →
      length (get_or (set now p x) i d).listeners.items ≡ length (those_at i (drop (suc k) places) (drop (suc k) places))
  left-at i d inside true test =
      let same : p ≡ i = sym ((Decides-eqb i p).0 test) in
      let some : length (those_at p (drop k places) (drop k places)) ≡ suc (length (those_at p (drop (suc k) places) (drop (suc k) places))) =
      ap (λ (t : List ℕ). length (those_at p t t)) rest-lines ∙ ap length (those-here p (drop (suc k) places) p (drop (suc k) places)) in
      let at_p : length (get_or (set now p x) p d).listeners.items ≡ length (those_at p (drop (suc k) places) (drop (suc k) places)) =
      omega (arith, ap (λ (r : InterfaceReport R W). length r.listeners.items) (get_or-set_same now p x d here), handed.left p x here, ap length was) in
      subst (λ (j : ℕ). length (get_or (set now p x) j d).listeners.items ≡ length (those_at j (drop (suc k) places) (drop (suc k) places))) same at_p
  left-at i d inside false test =
      let other : i ≢ p = λ same. absurd (false_is_true (sym test ∙ (Decides-eqb i p).1 same)) in
      ap (λ (r : InterfaceReport R W). length r.listeners.items) (get_or-set_other now p i x d other)
      ∙ handed.left i d inside
      ∙ ap (λ (t : List ℕ). length (those_at i t t)) rest-lines
      ∙ ap length (those-there i p (drop (suc k) places) p (drop (suc k) places) other)

  pub one_back : (now' : List (InterfaceReport R W)) (sinks' : List W) → now' ≡ set now p x → sinks' ≡ sinks ++ gone.sink ∷ [] → AreHandedBack places (k + 1) before now' sinks'
  one_back now' sinks' changed pushed =
      let next : suc k ≡ k + 1 = omega arith in
      subst (λ (ns : List (InterfaceReport R W)). AreHandedBack places (k + 1) before ns sinks') (sym changed)
      (subst (λ (ss : List W). AreHandedBack places (k + 1) before (set now p x) ss) (sym pushed) (record {
        many = length-set now p x ∙ handed.many;
        count = omega (arith, handed.count, length-append sinks (gone.sink ∷ []));
        back = λ i d inside. back-at i d (omega (arith, length-set now p x)) (i == p) refl;
        left = λ i d inside. subst (λ (j : ℕ). length (get_or (set now p x) i d).listeners.items ≡ length (those_at i (drop j places) (drop j places))) next (left-at i d (omega (arith, length-set now p x)) (i == p) refl);
      }))

-- the same, with the report as it was before
pub handed_on : {R W : Type 0} (places : List ℕ) (k : ℕ) (before now : List (InterfaceReport R W)) (sinks : List W) (p : ℕ) (x old : InterfaceReport R W) (gone : ListenerReport W) →
    AreHandedBack places k before now sinks → k < length places → p ≡ get_or places k 0 → p < length now → old ≡ get_or now p old →
    x.listeners.items ≡ remove old.listeners.items 0 → gone ≡ get_or old.listeners.items 0 gone →
    (now' : List (InterfaceReport R W)) (sinks' : List W) → now' ≡ set now p x → sinks' ≡ sinks ++ gone.sink ∷ [] → AreHandedBack places (k + 1) before now' sinks'
handed_on {R} {W} places k before now sinks p x old gone handed more is here was kept first =
    let same : old ≡ get_or now p x = was ∙ get_or-any now p old x here in
    one_back places k before now sinks p x gone handed more is here
    (kept ∙ ap (λ (r : InterfaceReport R W). remove r.listeners.items 0) same) (first ∙ ap (λ (r : InterfaceReport R W). get_or r.listeners.items 0 gone) same)

pub all_back : {R W : Type 0} (places : List ℕ) (k : ℕ) (before now : List (InterfaceReport R W)) (sinks : List W) → AreHandedBack places k before now sinks → length places ≤ k → k ≤ length places →
    AreSinksOf places before sinks
all_back {R} {W} places k before now sinks handed past within i report is =
    let inside : i < length now = omega (arith, handed.many, slice_get_within before i report is) in
    let none : length (get_or now i report).listeners.items ≡ 0 =
    handed.left i report inside ∙ ap (λ (t : List ℕ). length (those_at i t t)) (drop-all places k past) in
    let all : take k places ≡ places = take_all k places past in
    ap (λ (ps : List ℕ). those_at i ps sinks) (sym all)
    ∙ sym (append-nil (those_at i (take k places) sinks))
    ∙ ap (λ (ls : List (ListenerReport W)). those_at i (take k places) sinks ++ map (λ listener. listener.sink) ls) (sym (no-listeners (get_or now i report).listeners.items none))
    ∙ handed.back i report inside
    ∙ ap (λ (r : InterfaceReport R W). map (λ listener. listener.sink) r.listeners.items) (get_or_from_slice_get before i report report is)
  where
    no-listeners : (ls : List (ListenerReport W)) → length ls ≡ 0 → ls ≡ []
    no-listeners [] none = refl
    no-listeners (l ∷ ls) none = absurd (omega arith)
