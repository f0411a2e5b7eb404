-- The files of a split that are opened or made one after the other.
use Rattle.std.proofs.Common.{◌≡◌, ◌≢◌, ℕ, zero, suc, ◌+◌, ◌<◌, ◌≤◌, ◌++◌, ◌&&◌, ◌||◌, Bool, true, false, if◌then◌else◌, List, [], ◌∷◌, All, Any, Bor, get_or, length, take, drop, map, length-append, length-take, refl, sym, ◌∙◌, ap, subst, arith, Option, Some}
use Rattle.std.specs.List.{AllZip}
use Rattle.std.proofs.lemmas.List.{append-nil, append_assoc, drop_all, drop_more, take_all, take_more}
use Rattle.bpfvm.specs.declared.insn.Insn.{Insn}
use Rattle.cli_filter.proofs.Planned.{zip_more}
use Rattle.cli_store.specs.Files.{Places, Texts, text_at}
use Rattle.cli_split.specs.Lines.{is_null}
use Rattle.cli_split.specs.Opened.{IsLate, IsMadeOf}
use Rattle.cli_split.specs.SplitFiles.{own_outputs}
use Rattle.cli_split.specs.declared.part.Part.{Part}
use Rattle.cli_split.specs.declared.plan.SplitLine.{SplitLine}

-- ---- A text of which at most so many bytes are read

take_short : (n : ℕ) (xs : List ℕ) → length (take n xs) < n → take n xs ≡ xs
take_short zero xs short = absurd (omega (arith, short))
take_short (suc n) [] short = refl
take_short (suc n) (x ∷ xs) short = ap (λ (ys : List ℕ). x ∷ ys) (take_short n xs (omega (arith, short)))

-- a text of which more than m bytes could be taken has more, and one of which at most m of m + 1 could be taken is whole
pub long_front : (m n : ℕ) (text whole : List ℕ) → text ≡ take n whole → m < length text → m < length whole
long_front m n text whole front long = omega (arith, length-take n whole, ap length front, long)

pub short_front : (m : ℕ) (text whole : List ℕ) → text ≡ take (suc m) whole → length text ≤ m → whole ≡ text
short_front m text whole front short = sym (front ∙ take_short (suc m) whole (omega (arith, ap length front, short)))

-- ---- The OUTs that are compared

-- one line more
pub outputs-next : (lines : List SplitLine) (i : ℕ) (d : SplitLine) (seen : Bool) (outputs outputs' total : List (Bor (List ℕ))) → i < length lines
    → outputs ++ own_outputs seen (drop i lines) ≡ total
    → outputs' ≡ outputs ++ (if seen && is_null (get_or lines i d).output.now then [] else (get_or lines i d).output ∷ [])
    → outputs' ++ own_outputs (seen || is_null (get_or lines i d).output.now) (drop (i + 1) lines) ≡ total
outputs-next lines i d seen outputs outputs' total inside so more =
    let line = get_or lines i d in
    let one = if seen && is_null line.output.now then [] else line.output ∷ [] in
    let rest = own_outputs (seen || is_null line.output.now) (drop (i + 1) lines) in
    let cut : outputs ++ (one ++ rest) ≡ total = subst (λ ls. outputs ++ own_outputs seen ls ≡ total) (drop_more lines i d inside) so in
    ap (λ xs. xs ++ rest) more ∙ append_assoc outputs one rest ∙ cut

-- ---- Captures

-- what a list is made of, one element more
pub mapped-next : {X Y : Type 0} (f : X → Y) (before made made' : List Y) (xs : List X) (i : ℕ) (d : X) → i < length xs → made ≡ before ++ map f (take i xs) → made' ≡ made ++ f (get_or xs i d) ∷ []
    → made' ≡ before ++ map f (take (i + 1) xs)
mapped-next {X} {Y} f before made made' xs i d inside so more =
    more ∙ ap (λ ys. ys ++ f (get_or xs i d) ∷ []) so ∙ append_assoc before (map f (take i xs)) (f (get_or xs i d) ∷ [])
    ∙ ap (λ ys. before ++ ys) (sym (map-push (take i xs) (get_or xs i d)) ∙ ap (map f) (sym (take_more xs i d inside)))
  where
    map-push : (ys : List X) (y : X) → map f (ys ++ y ∷ []) ≡ map f ys ++ f y ∷ []
    map-push [] y = refl
    map-push (z ∷ zs) y = ap (λ ws. f z ∷ ws) (map-push zs y)

same-at : {X : Type 0} (xs : List X) (i : ℕ) (d : X) → i < length xs → get_or xs i (get_or xs i d) ≡ get_or xs i d
same-at [] i d inside = absurd (omega (arith, inside))
same-at (x ∷ xs) zero d inside = refl
same-at (x ∷ xs) (suc i) d inside = same-at xs i d (omega (arith, inside))

-- an element is one of a list's
pub any-at : {X : Type 0} (P : X → Type 0) (xs : List X) (i : ℕ) (d : X) → i < length xs → P (get_or xs i d) → Any P xs
any-at P xs i d inside p = (i, get_or xs i d, inside, same-at xs i d inside, p)

-- one capture more that was opened late, where nothing changed before
pub late-next : {R : Type 0} (left : R → Option (List ℕ)) (failures : R → ℕ) (place place-now : Places) (text text-now : Texts) (paths : List (Bor (List ℕ))) (i : ℕ) (d : Bor (List ℕ)) (captures : List R) (capture : R) →
    place-now ≡ place → text-now ≡ text → i < length paths → AllZip (IsLate left failures place text) (take i paths) captures → left capture ≡ Some (text_at text-now (place-now (get_or paths i d).now)) →
    failures capture ≡ 0 → AllZip (IsLate left failures place text) (take (i + 1) paths) (captures ++ capture ∷ [])
late-next left failures place place-now text text-now paths i d captures capture places texts inside each is works =
    let path = get_or paths i d in
    let here : left capture ≡ Some (text_at text (place path.now)) =
    subst (λ (t : Texts). left capture ≡ Some (text_at t (place path.now))) texts (subst (λ (pl : Places). left capture ≡ Some (text_at text-now (pl path.now))) places is) in
    zip_more (IsLate left failures place text) paths captures i d capture inside each (here, works)

-- the place of a capture is one more that was opened
pub opened-next : (place place-now : Places) (before opened opened' : List (List ℕ)) (paths : List (Bor (List ℕ))) (i : ℕ) (d : Bor (List ℕ)) → place-now ≡ place → i < length paths →
    opened ≡ before ++ map (λ path. place path.now) (take i paths) → opened' ≡ opened ++ place-now (get_or paths i d).now ∷ [] → opened' ≡ before ++ map (λ path. place path.now) (take (i + 1) paths)
opened-next place place-now before opened opened' paths i d places inside so more =
    mapped-next (λ (path : Bor (List ℕ)). place path.now) before opened opened' paths i d inside so
    (subst (λ (pl : Places). opened' ≡ opened ++ pl (get_or paths i d).now ∷ []) places more)

-- ---- Parts

zip-drop : {A B : Type 0} (S : A → B → Type 0) (xs : List A) (n : ℕ) (d : A) (y : B) (ys : List B) → n < length xs → AllZip S (drop n xs) (y ∷ ys) → S (get_or xs n d) y × AllZip S (drop (n + 1) xs) ys
zip-drop S xs n d y ys inside each = subst (λ ls. AllZip S ls (y ∷ ys)) (drop_more xs n d inside) each

module _ {W : Type 0} (taken : W → Option (List ℕ)) (name : W → List ℕ) (failures : W → ℕ) (place : Places) (Stands : SplitLine → List Insn → Type 0) where
  -- the parts of the first lines were made, and the programs of the others are left
  abbrev pub AreMade : List SplitLine → List (Part W) → List (List Insn) → Type 0
  AreMade lines parts rest = AllZip (IsMadeOf taken name failures place Stands) (take (length parts) lines) parts × AllZip Stands (drop (length parts) lines) rest

  pub made-next : (lines : List SplitLine) (d : SplitLine) (n : ℕ) (parts parts' : List (Part W)) (rest rest' : List (List Insn)) (program : List Insn) (part : Part W) (now : Places) → n ≡ length parts
      → n < length lines → rest ≡ program ∷ rest' → parts' ≡ parts ++ part ∷ [] → part.program ≡ program → part.snap ≡ (get_or lines n d).snap → name part.sink ≡ now (get_or lines n d).output.now
      → now ≡ place → taken part.sink ≡ Some [] → failures part.sink ≡ 0 → AreMade lines parts rest → AreMade lines parts' rest'
  made-next lines d n parts parts' rest rest' program part now place-is inside taken-out given same snap named places empty works made =
      let next : length parts' ≡ n + 1 = omega (arith, place-is, ap length given, length-append parts (part ∷ [])) in
      let here = subst (λ k. AllZip (IsMadeOf taken name failures place Stands) (take k lines) parts × AllZip Stands (drop k lines) rest) (sym place-is) made in
      let left = zip-drop Stands lines n d program rest' inside (subst (λ ps. AllZip Stands (drop n lines) ps) taken-out here.1) in
      let one : IsMadeOf taken name failures place Stands (get_or lines n d) part = record {
        stands = subst (λ p. Stands (get_or lines n d) p) (sym same) left.0;
        snap = snap;
        named = subst (λ (pl : Places). name part.sink ≡ pl (get_or lines n d).output.now) places named;
        empty = empty;
        works = works;
      } in (
        subst (λ k. AllZip (IsMadeOf taken name failures place Stands) (take k lines) parts') (sym next)
            (subst (λ ps. AllZip (IsMadeOf taken name failures place Stands) (take (n + 1) lines) ps) (sym given)
            (zip_more (IsMadeOf taken name failures place Stands) lines parts n d part inside here.0 one)),
        subst (λ k. AllZip Stands (drop k lines) rest') (sym next) left.1,
      )

  pub made-all : (lines : List SplitLine) (parts : List (Part W)) → length parts ≡ length lines → AllZip (IsMadeOf taken name failures place Stands) (take (length parts) lines) parts
      → AllZip (IsMadeOf taken name failures place Stands) lines parts
  made-all lines parts all made = subst (λ ls. AllZip (IsMadeOf taken name failures place Stands) ls parts) (take_all (length parts) lines (omega (arith, all))) made

pub pushed-length : {X : Type 0} (xs ys : List X) (x : X) → ys ≡ xs ++ x ∷ [] → length ys ≡ length xs + 1
pushed-length xs ys x given = omega (arith, ap length given, length-append xs (x ∷ []))

-- each of these and one more took nothing
pub all-push : {X : Type 0} (P : X → Type 0) (xs : List X) (x : X) → All P xs → P x → All P (xs ++ x ∷ [])
all-push P [] x each p zero d inside = p
all-push P [] x each p (suc k) d inside = absurd (omega (arith, inside))
all-push P (y ∷ ys) x each p zero d inside = each zero y (omega arith)
all-push P (y ∷ ys) x each p (suc k) d inside = all-push P ys x (λ j e below. each (suc j) e (omega (arith, below))) p k d (omega (arith, inside))

-- no part was made so far
pub made-none : {W : Type 0} (taken : W → Option (List ℕ)) (name : W → List ℕ) (failures : W → ℕ) (place : Places) (Stands : SplitLine → List Insn → Type 0) (lines : List SplitLine) (parts : List (Part W))
    (rest programs : List (List Insn)) → parts ≡ [] → rest ≡ programs → AllZip Stands lines programs → AreMade taken name failures place Stands lines parts rest
made-none taken name failures place Stands lines parts rest programs none same each =
    subst (λ ps. AreMade taken name failures place Stands lines ps rest) (sym none) (tt, subst (λ ps. AllZip Stands lines ps) (sym same) each)
