-- Code that asks whether a number is one of many.
use Rattle.std.proofs.Common.{◌≡◌, ℕ, suc, ◌+◌, ◌*◌, ◌<◌, ◌≤◌, Bool, true, false, List, [], ◌∷◌, ◌++◌, length, Option, Some, None, refl, sym, ap, ◌∙◌, arith, if◌then◌else◌, bit_and, option_map, take, get_or}
use Rattle.std.proofs.lemmas.List.{take_more, length-append}
use Rattle.bpfvm.specs.declared.insn.Insn.{Insn}
use Rattle.bpfvm.specs.Codes.{Accumulator, Index}
use Rattle.bpfvm.specs.Machine.{Registers, Goes, with_value, loaded, effect}
use Rattle.filter_tree.specs.declared.tree.Direction.{Direction}
use Rattle.filter_tree.specs.declared.tree.Direction.TheVariants.{Src, Dst, SrcOrDst, SrcAndDst}
use Rattle.filtergen_code.specs.declared.code.Exits.{Exits}
use Rattle.filtergen_code.specs.declared.insns.Field.{Field}
use Rattle.filtergen_code.specs.declared.insns.Field.TheVariants as fields
use Rattle.filtergen_facts.specs.declared.lists.ValueRange.{ValueRange}
use Rattle.filtergen_code.specs.declared.value_in_list.Location.{Location}
use Rattle.filtergen_code.specs.declared.value_in_list.Location.TheVariants as locations
use Rattle.filter_meaning.specs.declared.verdict.Verdict.{Verdict}
use Rattle.filter_meaning.specs.declared.verdict.Verdict.TheVariants.{Abort}
use Rattle.filter_meaning.specs.Meaning.{Packet, HasBytes, Test, or_else, or_test, check, decided, byte, half, word, within, has_port, by_direction, check_both, accessed}
use Rattle.filtergen_code.specs.Insns.{plain_insn, load_insn}
use Rattle.filter_tree.specs.declared.tree.Layer.{Layer}
use Rattle.filtergen_code.specs.declared.values.Base.{Base}
use Rattle.filtergen_code.specs.Parts.{port_after, base_of, read_from}
use Rattle.filtergen_code.specs.Emission.{AreExits, HasCells, IsPlace, run_from, front, field_of, Answers, Passes, outcome, Extends, Chooses, IsRelay, Computes, same_index, Follows, Decides}
use Rattle.filtergen_facts.specs.Lists.{any_of, in_range}
use Rattle.filtergen_code.specs.ValueLists.{in_ranges, location_value, found_at, onward, LoadsLocation, PassesLocation, ChoosesFrom, IsChoice}
use Rattle.filtergen_code.proofs.Runs.{after, answer-first, front-place, extends-none, extends-one, extends-both, extends-more, load-effect, mask-effect, half-effect, header-effect}
use Rattle.filtergen_code.proofs.Computing.{computes-same, read-accessed, decides-valued}
use Rattle.filtergen_code.proofs.Deciding.{outcome-either, decides-same}
use Rattle.filtergen_code.proofs.Following.{follows-more, follows-same}
use Rattle.filtergen_code.proofs.Sides.{after_header, directed, directed-is}
use Rattle.filtergen_facts.proofs.Joining.{any-same, any-abort}
use Rattle.filtergen_code.proofs.ValueLists.{any-checked, any-pair, among-more}

-- no span is asked for
pub chooses-none : (exits : Exits) (a : List Insn) → AreExits a exits → ChoosesFrom 0 (λ r. in_ranges [] r.accumulator) exits exits.no a a
chooses-none exits a are = record { extends = extends-none a; here = are.1; chooses = λ p r. refl }

both-exits : (b : Bool) (k l m n : ℕ) → k ≡ m → l ≡ n → (if b then k else l) ≡ (if b then m else n)
both-exits true k l m n first second = first
both-exits false k l m n first second = second

-- nothing is asked where both exits are one
if-one : (b : Bool) (m n : ℕ) → m ≡ n → n ≡ (if b then m else n)
if-one true m n same = sym same
if-one false m n same = refl

pub chooses-one : {near : ℕ} (k : ℕ) (choice : Registers → Bool) {exits : Exits} {a b : List Insn} → 1 ≤ k → exits.yes ≡ exits.no → IsRelay exits.no 0 near a b → ChoosesFrom k choice exits near a b
chooses-one k choice {exits} {a} more same nears = record {
  extends = extends-more k more nears.extends;
  here = nears.here;
  chooses = λ p r. nears.leads p r ∙ if-one (choice r) _ _ (ap (λ e. run_from a e p r) same);
}

pub near-front : {place near : ℕ} {a b : List Insn} → IsRelay place 0 near a b → near ≡ length b
near-front nears = omega (arith, nears.reached, nears.here.1)

-- a choice stays one, whatever is put in front
pub choice-kept : {k e : ℕ} (choice : Registers → Bool) {exits : Exits} {a b : List Insn} → AreExits a exits → Extends k a b → IsChoice choice exits e a → IsChoice choice exits e b
choice-kept {k} {e} choice {exits} {a} {b} are extends there = record {
  here = (there.here.0, omega (arith, there.here.1, extends.longer));
  chooses = λ p r.
      extends.same e p r there.here.1 ∙ there.chooses p r
      ∙ both-exits (choice r) _ _ _ _ (sym (extends.same exits.yes p r are.0.1)) (sym (extends.same exits.no p r are.1.1));
}

pub choice-made : {k e : ℕ} (choice : Registers → Bool) {exits : Exits} {a b : List Insn} → AreExits a exits → ChoosesFrom k choice exits e a b → IsChoice choice exits e b
choice-made {k} {e} choice {exits} {a} {b} are made = record {
  here = made.here;
  chooses = λ p r.
      made.chooses p r
      ∙ both-exits (choice r) _ _ _ _ (sym (made.extends.same exits.yes p r are.0.1)) (sym (made.extends.same exits.no p r are.1.1));
}

pub choice-from : {e : ℕ} (choice : Registers → Bool) {exits : Exits} {a : List Insn} → IsChoice choice exits e a → ChoosesFrom 0 choice exits e a a
choice-from choice {exits} {a} there = record { extends = extends-none a; here = there.here; chooses = there.chooses }

-- a jump to it is the same choice
pub choice-near : {e near : ℕ} (choice : Registers → Bool) {exits : Exits} {a b : List Insn} → AreExits a exits → IsRelay e 0 near a b → IsChoice choice exits e a → IsChoice choice exits (length b) b
choice-near {e} {near} choice {exits} {a} {b} are nears there =
    let at : length b ≡ near = omega (arith, nears.reached, nears.here.1) in
    record {
      here = (omega (arith, nears.here.0, nears.here.1), omega arith);
      chooses = λ p r.
          ap (λ place. run_from b place p r) at ∙ nears.leads p r ∙ there.chooses p r
          ∙ both-exits (choice r) _ _ _ _ (sym (nears.extends.same exits.yes p r are.0.1)) (sym (nears.extends.same exits.no p r are.1.1));
    }

-- a place that leads on as an exit
pub record LeadsAs (new : List Insn) (near : ℕ) (old : List Insn) (place : ℕ) : Type 0 where
  pub here : IsPlace new near
  pub leads : (p : Packet) (r : Registers) → run_from new near p r ≡ run_from old place p r

pub leads-near : {reach near yes place : ℕ} {a b c : List Insn} → IsRelay yes reach near b c → LeadsAs b yes a place → LeadsAs c near a place
leads-near nears before = record { here = nears.here; leads = λ p r. nears.leads p r ∙ before.leads p r }

pub leads-later : {k near place : ℕ} {a b c : List Insn} → Extends k b c → LeadsAs b near a place → LeadsAs c near a place
leads-later {k} {near} extends before = record {
  here = (before.here.0, omega (arith, before.here.1, extends.longer));
  leads = λ p r. extends.same near p r before.here.1 ∙ before.leads p r;
}

-- one more span is asked for in front of these
pub chooses-more : {k reach near entry yes : ℕ} (xs : List ValueRange) (x : ValueRange) {exits : Exits} {a b c d : List Insn}
    → ChoosesFrom k (λ r. in_ranges xs r.accumulator) exits entry a b → LeadsAs b yes a exits.yes → IsRelay yes reach near b c
    → Chooses 6 (λ r. within x.low x.high r.accumulator) (record { yes = near; no = entry }) c d
    → ChoosesFrom (k + 7) (λ r. in_ranges (xs ++ (x ∷ [])) r.accumulator) exits (length d) a d
chooses-more {k} {reach} {near} {entry} {yes} xs x {exits} {a} {b} {c} {d} before leads nears jump = record {
  extends = extends-more (k + 7) (omega arith) (extends-both before.extends (extends-both nears.extends jump.extends));
  here = (omega (arith, nears.here.0, nears.here.1, jump.extends.longer), omega arith);
  chooses = λ p r.
      front-place d p r ∙ jump.chooses p r
      ∙ by_test (within x.low x.high r.accumulator) (in_ranges xs r.accumulator) _ _ _ _ (nears.leads p r ∙ leads.leads p r) (nears.extends.same entry p r before.here.1 ∙ before.chooses p r)
      ∙ ap (λ b'. if b' then run_from a exits.yes p r else run_from a exits.no p r) (sym (among-more xs x r.accumulator));
}
  where
    by_test : (b c : Bool) (k l m n : ℕ) → k ≡ m → l ≡ (if c then m else n) → (if b then k else l) ≡ (if (if b then true else c) then m else n)
    by_test true c k l m n first second = first
    by_test false c k l m n first second = second

-- and so is the next of a list
pub chooses-next : {reach near entry yes n : ℕ} (all : List ValueRange) (i : ℕ) (default : ValueRange) {exits : Exits} {a b c d : List Insn} → i < length all → n ≡ length d
    → ChoosesFrom (7 * i) (λ r. in_ranges (take i all) r.accumulator) exits entry a b → LeadsAs b yes a exits.yes → IsRelay yes reach near b c
    → Chooses 6 (λ r. within (get_or all i default).low (get_or all i default).high r.accumulator) (record { yes = near; no = entry }) c d
    → ChoosesFrom (7 * (i + 1)) (λ r. in_ranges (take (i + 1) all) r.accumulator) exits n a d
chooses-next all i default inside at before leads nears jump =
    let more : 7 * (i + 1) ≡ 7 * i + 7 = omega arith in
    rw (at, more, take_more all i default inside) (chooses-more (take i all) (get_or all i default) before leads nears jump)

-- a number is looked for in one more span
pub found-more : (all : List ValueRange) (i : ℕ) (default : ValueRange) (n : ℕ) (b found old : Bool) → i < length all → b ≡ within (get_or all i default).low (get_or all i default).high n → old ≡ in_ranges (take i all) n
    → found ≡ (if b then true else old) → found ≡ in_ranges (take (i + 1) all) n
found-more all i default n b found old inside is before now =
    now
    ∙ ap (λ c. if c then true else old) is
    ∙ ap (λ c. if within (get_or all i default).low (get_or all i default).high n then true else c) before
    ∙ sym (among-more (take i all) (get_or all i default) n)
    ∙ sym (ap (λ xs. in_ranges xs n) (take_more all i default inside))

-- the loads of a spot
pub loads-at : (f : Field) (a : List Insn) → LoadsLocation (locations.At f) a (load_insn f ∷ a)
loads-at f a = record {
  extends = extends-more 2 (omega arith) (extends-one _ a);
  loads = λ p r. answer-first (load_insn f) a p r _ (load-effect f p r) ∙ by_value p r (field_of f p);
}
  where
    by_value : (p : Packet) (r : Registers) (v : Option ℕ) → after a p (loaded Accumulator r v) ≡ onward v (front a p) r
    by_value p r None = refl
    by_value p r (Some n) = refl

pub loads-after : (o : ℕ) (a : List Insn) → LoadsLocation (locations.Indirect o) a (plain_insn 0x48 o ∷ a)
loads-after o a = record {
  extends = extends-more 2 (omega arith) (extends-one _ a);
  loads = λ p r. answer-first (plain_insn 0x48 o) a p r _ (half-effect o p r) ∙ by_value p r (half (r.index + o) p);
}
  where
    by_value : (p : Packet) (r : Registers) (v : Option ℕ) → after a p (loaded Accumulator r v) ≡ onward v (front a p) r
    by_value p r None = refl
    by_value p r (Some n) = refl

pub loads-masked : (o mask : ℕ) (a : List Insn) → LoadsLocation (locations.Masked o mask) a (load_insn (fields.Word o) ∷ plain_insn 0x54 mask ∷ a)
loads-masked o mask a = record {
  extends = extends-both (extends-one _ a) (extends-one _ (plain_insn 0x54 mask ∷ a));
  loads = λ p r. answer-first (load_insn (fields.Word o)) (plain_insn 0x54 mask ∷ a) p r _ (load-effect (fields.Word o) p r) ∙ by_value p r (word o p);
}
  where
    by_value : (p : Packet) (r : Registers) (v : Option ℕ) → after (plain_insn 0x54 mask ∷ a) p (loaded Accumulator r v) ≡ onward (option_map (λ w. bit_and w mask) v) (front a p) r
    by_value p r None = refl
    by_value p r (Some n) = answer-first (plain_insn 0x54 mask) a p (with_value Accumulator n r) _ (mask-effect mask p (with_value Accumulator n r))

-- one number is loaded once for all members
pub found-checked : (location : Location) (r : Registers) (p : Packet) (xs : List ValueRange) → 0 < length xs → any_of (found_at location r) xs p ≡ check (in_ranges xs) (location_value location r p)
found-checked location r p xs some =
    any-same (found_at location r) (λ (x : ValueRange) q. check (within x.low x.high) (location_value location r p)) p (λ x. refl) xs ∙ any-checked xs p (location_value location r p) some

-- exits that are not passed, and those after the same load
pub passes-none : (location : Location) {exits : Exits} (a : List Insn) → AreExits a exits → PassesLocation location exits exits a
passes-none location a are = record { here = are; yes = λ p r n is. refl; no = λ p r n is. refl }

pub passes-load : (f : Field) {exits : Exits} {y n : ℕ} {a : List Insn} → Passes (load_insn f) exits.yes y a → Passes (load_insn f) exits.no n a
    → PassesLocation (locations.At f) exits (record { yes = y; no = n }) a
passes-load f yes-passed no-passed = record {
  here = (yes-passed.here, no-passed.here);
  yes = λ p r n is. yes-passed.leads p (with_value Accumulator n r) (unchanged p r n is);
  no = λ p r n is. no-passed.leads p (with_value Accumulator n r) (unchanged p r n is);
}
  where
    unchanged : (p : Packet) (r : Registers) (n : ℕ) → field_of f p ≡ Some n → effect p.captured p.wire (load_insn f) (with_value Accumulator n r) ≡ Goes 0 (with_value Accumulator n r)
    unchanged p r n is = load-effect f p (with_value Accumulator n r) ∙ ap (loaded Accumulator (with_value Accumulator n r)) is

pub follows-passed : {most e : ℕ} (location : Location) (xs : List ValueRange) {exits passed : Exits} {a b c : List Insn} → 0 < length xs → e ≡ length b → PassesLocation location exits passed a
    → ChoosesFrom most (λ r. in_ranges xs r.accumulator) passed e a b → LoadsLocation location b c
    → Follows same_index (most + 2) (λ r. any_of (found_at location r) xs) exits (length c) a c
follows-passed {most} {e} location xs {exits} {passed} {a} {b} {c} some is passes choice load = record {
  extends = extends-both choice.extends load.extends;
  here = (omega (arith, choice.here.0, choice.here.1, load.extends.longer), omega arith);
  follows = λ p m n r bytes cells yes' no'.
      front-place c p r ∙ load.loads p r
      ∙ by_value p m n r (location_value location r p)
      (λ x at. passes.yes p r x at ∙ yes' (with_value Accumulator x r) cells refl) (λ x at. passes.no p r x at ∙ no' (with_value Accumulator x r) cells refl) refl
      ∙ ap (λ v. outcome v m n) (sym (found-checked location r p xs some));
}
  where
    by_choice : (b : Bool) (k l m n : ℕ) → k ≡ m → l ≡ n → (if b then k else l) ≡ outcome (decided b) m n
    by_choice true k l m n first second = first
    by_choice false k l m n first second = second

    by_value : (p : Packet) (m n : ℕ) (r : Registers) (v : Option ℕ)
        → ((x : ℕ) → location_value location r p ≡ Some x → run_from a passed.yes p (with_value Accumulator x r) ≡ m)
        → ((x : ℕ) → location_value location r p ≡ Some x → run_from a passed.no p (with_value Accumulator x r) ≡ n)
        → location_value location r p ≡ v → onward v (front b p) r ≡ outcome (check (in_ranges xs) v) m n
    by_value p m n r None yes' no' at = refl
    by_value p m n r (Some x) yes' no' at =
        let s = with_value Accumulator x r in
        sym (ap (λ place. run_from b place p s) is ∙ front-place b p s) ∙ choice.chooses p s ∙ by_choice (in_ranges xs x) _ _ m n (yes' x at) (no' x at)

pub follows-sought : {most e : ℕ} (location : Location) (xs : List ValueRange) {exits : Exits} {a b c : List Insn} → AreExits a exits → 0 < length xs → e ≡ length b
    → ChoosesFrom most (λ r. in_ranges xs r.accumulator) exits e a b → LoadsLocation location b c
    → Follows same_index (most + 2) (λ r. any_of (found_at location r) xs) exits (length c) a c
follows-sought location xs {exits} {a} are some is choice load = follows-passed location xs some is (passes-none location a are) choice load

-- a test where another one does not hold, which looks at the index register alone
pub follows-else : {k l e f : ℕ} (t u : Registers → Test) {exits : Exits} {a b c : List Insn} → ((p : Packet) (r s : Registers) → s.index ≡ r.index → u s p ≡ u r p) → AreExits a exits
    → Follows same_index k u exits f a b → Follows same_index l t (record { yes = exits.yes; no = f }) e b c
    → Follows same_index (k + l) (λ r. or_test (t r) (u r)) exits e a c
follows-else {k} {l} {e} {f} t u {exits} {a} {b} {c} same are second first = record {
  extends = extends-both second.extends first.extends;
  here = first.here;
  follows = λ p m n r bytes cells yes' no'.
      first.follows p m (outcome (u r p) m n) r bytes cells
      (λ s kept like. second.extends.same exits.yes p s are.0.1 ∙ yes' s kept like)
      (λ s kept like. second.follows p m n s bytes kept (λ s' kept' like'. yes' s' kept' (like' ∙ like)) (λ s' kept' like'. no' s' kept' (like' ∙ like)) ∙ ap (λ v. outcome v m n) (same p r s like))
      ∙ outcome-either (t r p) (u r p) m n;
}

pub found-same : (location : Location) (p : Packet) (r s : Registers) (x : ValueRange) → s.index ≡ r.index → found_at location s x p ≡ found_at location r x p
found-same (locations.At field) p r s x same = refl
found-same (locations.Masked o mask) p r s x same = refl
found-same (locations.Indirect o) p r s x same = ap (λ i. check (within x.low x.high) (half (i + o) p)) same

pub sought-same : (location : Location) (xs : List ValueRange) (p : Packet) (r s : Registers) → s.index ≡ r.index → any_of (found_at location s) xs p ≡ any_of (found_at location r) xs p
sought-same location xs p r s same = any-same (found_at location s) (found_at location r) p (λ x. found-same location p r s x same) xs

-- the first member's source and destination, and then those of all the others
pub sides-shared : (source destination : Location) (r : Registers) (p : Packet) (ranges others first : List ValueRange) → ranges ≡ others ++ first → length first ≡ 1 → 0 < length others
    → or_else (any_of (found_at source r) first p) (or_else (any_of (found_at destination r) ranges p) (any_of (found_at source r) others p))
    ≡ any_of (λ x. or_test (found_at source r x) (found_at destination r x)) ranges p
sides-shared source destination r p ranges others [] is one some = absurd (omega (arith, one))
sides-shared source destination r p ranges others (x ∷ y ∷ more) is one some = absurd (omega (arith, one))
sides-shared source destination r p ranges others (x ∷ []) is one some =
    let v = location_value source r p in
    let w = location_value destination r p in
    let many : 0 < length (others ++ (x ∷ [])) = omega (arith, length-append others (x ∷ [])) in
    ap (λ l. or_else (any_of (found_at source r) (x ∷ []) p) (or_else (any_of (found_at destination r) l p) (any_of (found_at source r) others p))) is
    ∙ ap (λ u. or_else (any_of (found_at source r) (x ∷ []) p) (or_else (any_of (found_at destination r) (others ++ (x ∷ [])) p) u)) (found-checked source r p others some)
    ∙ ap (λ u. or_else (any_of (found_at source r) (x ∷ []) p) (or_else u (check (in_ranges others) v))) (found-checked destination r p (others ++ (x ∷ [])) many)
    ∙ ap (λ u. or_else u (or_else (check (in_ranges (others ++ (x ∷ []))) w) (check (in_ranges others) v))) (found-checked source r p (x ∷ []) (omega arith))
    ∙ any-pair others x p v w
    ∙ any-same (λ (y : ValueRange) q. or_else (check (within y.low y.high) v) (check (within y.low y.high) w)) (λ y. or_test (found_at source r y) (found_at destination r y)) p (λ y. refl) (others ++ (x ∷ []))
    ∙ ap (λ l. any_of (λ x'. or_test (found_at source r x') (found_at destination r x')) l p) (sym is)

pub follows-sides : {k e f g : ℕ} (source destination : Location) (ranges others first : List ValueRange) {exits : Exits} {a b c d : List Insn} → ranges ≡ others ++ first → length first ≡ 1 → 0 < length others
    → AreExits a exits → Follows same_index k (λ r. any_of (found_at source r) others) exits g a b
    → Follows same_index (7 * length ranges + 2) (λ r. any_of (found_at destination r) ranges) (record { yes = exits.yes; no = g }) f b c
    → Follows same_index (7 * length first + 2) (λ r. any_of (found_at source r) first) (record { yes = exits.yes; no = f }) e c d
    → Follows same_index (k + (7 * length ranges + 11)) (λ r. any_of (λ x. or_test (found_at source r x) (found_at destination r x)) ranges) exits e a d
follows-sides {k} source destination ranges others first is one some are third second begin =
    let later = follows-else (λ r. any_of (found_at destination r) ranges) (λ r. any_of (found_at source r) others) (sought-same source others) are third second in
    follows-more (k + (7 * length ranges + 11)) _ (omega (arith, one))
    (follows-same _ (λ r. any_of (λ x. or_test (found_at source r x) (found_at destination r x)) ranges) (λ r p. sides-shared source destination r p ranges others first is one some)
    (follows-else (λ r. any_of (found_at source r) first) (λ r. or_test (any_of (found_at destination r) ranges) (any_of (found_at source r) others))
    (λ p r s same. ap (λ v. or_else v (any_of (found_at source s) others p)) (sought-same destination ranges p r s same) ∙ ap (or_else (any_of (found_at destination r) ranges p)) (sought-same source others p r s same))
    are later begin))

-- the spot of an address
pub location-masked : (o mask : ℕ) (p : Packet) (r : Registers) (x : ValueRange) → found_at (locations.Masked o mask) r x p ≡ in_range x mask o p
location-masked o mask p r x = by_value (word o p)
  where
    by_value : (v : Option ℕ) → check (within x.low x.high) (option_map (λ w. bit_and w mask) v) ≡ check (λ w. within x.low x.high (bit_and w mask)) v
    by_value None = refl
    by_value (Some n) = refl

-- a test after the header's length, which goes in front
abbrev pub behind_length : (ℕ → Test) → Packet → Option ℕ → Verdict
behind_length t p None = Abort
behind_length t p (Some b) = t (4 * bit_and b 15) p

pub decides-header : {most e y n : ℕ} (t : ℕ → Test) {exits : Exits} {a b : List Insn} → e ≡ length b
    → Passes (plain_insn 0xb1 14) exits.yes y a → Passes (plain_insn 0xb1 14) exits.no n a
    → Follows same_index most (λ r. t r.index) (record { yes = y; no = n }) e a b
    → Decides (most + 1) (λ p. behind_length t p (byte 14 p)) exits (suc (length b)) a (plain_insn 0xb1 14 ∷ b)
decides-header {most} {e} {y} {n} t {exits} {a} {b} is yes-passed no-passed inner = record {
  extends = extends-both inner.extends (extends-one _ b);
  here = (omega arith, omega arith);
  decides = λ p k l bytes yes' no'. record {
    always = λ r cells.
        front-place (header ∷ b) p r ∙ answer-first header b p r _ (header-effect p r)
        ∙ by_header p k l r bytes cells yes' no' (byte 14 p) refl;
  };
}
  where
    header : Insn
    header = plain_insn 0xb1 14

    length_of : ℕ → ℕ
    length_of x = 4 * bit_and x 15

    -- with the header's length in X, the same instruction changes nothing
    unchanged : (p : Packet) (x : ℕ) (s : Registers) → byte 14 p ≡ Some x → s.index ≡ length_of x → effect p.captured p.wire header s ≡ Goes 0 s
    unchanged p x s is' same =
        header-effect p s ∙ ap (λ v. loaded Index s (option_map length_of v)) is' ∙ ap (λ n. Goes 0 (with_value Index n s)) (sym same)

    by_header : (p : Packet) (k l : ℕ) (r : Registers) → HasBytes p → HasCells r → Answers a exits.yes p k → Answers a exits.no p l → (v : Option ℕ) → byte 14 p ≡ v
        → after b p (loaded Index r (option_map length_of v)) ≡ outcome (behind_length t p v) k l
    by_header p k l r bytes cells yes' no' None is' = refl
    by_header p k l r bytes cells yes' no' (Some x) is' =
        let s = with_value Index (length_of x) r in
        sym (ap (λ place. run_from b place p s) is ∙ front-place b p s)
        ∙ inner.follows p k l s bytes cells
        (λ t' kept same. yes-passed.leads p t' (unchanged p x t' is' same) ∙ yes'.always t' kept)
        (λ t' kept same. no-passed.leads p t' (unchanged p x t' is' same) ∙ no'.always t' kept)

-- the ports of a list, past the header
abbrev pub port_at : Direction → ℕ → ValueRange → Test
port_at d l x = by_direction d (port_after l x.low x.high 0) (port_after l x.low x.high 2)

pub header-shared : (d : Direction) (xs : List ValueRange) (p : Packet) → 0 < length xs
    → behind_length (λ l. any_of (port_at d l) xs) p (byte 14 p) ≡ any_of (λ (x : ValueRange). by_direction d (has_port x.low x.high 0) (has_port x.low x.high 2)) xs p
header-shared d xs p some =
    by_value (byte 14 p)
    ∙ any-same (λ (x : ValueRange) q. directed d (after_header x.low x.high 0 (byte 14 p) p) (after_header x.low x.high 2 (byte 14 p) p)) (λ (x : ValueRange). by_direction d (has_port x.low x.high 0) (has_port x.low x.high 2)) p
    (λ x. directed-is d (has_port x.low x.high 0) (has_port x.low x.high 2) p) xs
  where
    same : (o b : ℕ) (x : ValueRange) → port_after (4 * bit_and b 15) x.low x.high o p ≡ after_header x.low x.high o (Some b) p
    same o b x = let at : 4 * bit_and b 15 + (14 + o) ≡ 14 + 4 * bit_and b 15 + o = omega arith in ap (λ k. check (within x.low x.high) (half k p)) at

    one : (b : ℕ) (x : ValueRange) → port_at d (4 * bit_and b 15) x p ≡ directed d (after_header x.low x.high 0 (Some b) p) (after_header x.low x.high 2 (Some b) p)
    one b x =
        sym (directed-is d (port_after (4 * bit_and b 15) x.low x.high 0) (port_after (4 * bit_and b 15) x.low x.high 2) p)
        ∙ ap (λ v. directed d v (port_after (4 * bit_and b 15) x.low x.high 2 p)) (same 0 b x)
        ∙ ap (directed d (after_header x.low x.high 0 (Some b) p)) (same 2 b x)

    aborts : (e : Direction) → directed e Abort Abort ≡ Abort
    aborts Src = refl
    aborts Dst = refl
    aborts SrcOrDst = refl
    aborts SrcAndDst = refl

    by_value : (v : Option ℕ) → behind_length (λ l. any_of (port_at d l) xs) p v ≡ any_of (λ (x : ValueRange) q. directed d (after_header x.low x.high 0 v p) (after_header x.low x.high 2 v p)) xs p
    by_value None = sym (any-same (λ (x : ValueRange) q. directed d Abort Abort) (λ (x : ValueRange) q. Abort) p (λ x. aborts d) xs ∙ any-abort xs p some)
    by_value (Some b) = any-same (port_at d (4 * bit_and b 15)) (λ (x : ValueRange) q. directed d (after_header x.low x.high 0 (Some b) p) (after_header x.low x.high 2 (Some b) p)) p (λ x. one b x) xs

-- a value is computed once for all members
pub decides-sought : {most m e : ℕ} (xs : List ValueRange) {v : Packet → Option ℕ} {exits : Exits} {a b c : List Insn} (entry : ℕ) → AreExits a exits → e ≡ length b → entry ≡ length c
    → ChoosesFrom most (λ r. in_ranges xs r.accumulator) exits e a b → Computes m v 0 b c → Decides (most + m) (λ p. check (in_ranges xs) (v p)) exits entry a c
decides-sought {most} {m} {e} xs {v} {exits} {a} {b} {c} entry are is at choice computes =
    decides-same (λ p. check_both (λ x y. in_ranges xs x) (v p) (Some 0)) (λ p. check (in_ranges xs) (v p)) (λ p bytes. by_value (v p))
    (decides-valued (λ x y. in_ranges xs x) 0 entry are at chosen computes)
  where
    chosen : Chooses most (λ r. in_ranges xs r.accumulator) exits a b
    chosen = record { extends = choice.extends; chooses = λ p r. sym (ap (λ place. run_from b place p r) is ∙ front-place b p r) ∙ choice.chooses p r }

    by_value : (w : Option ℕ) → check_both (λ x y. in_ranges xs x) w (Some 0) ≡ check (in_ranges xs) w
    by_value None = refl
    by_value (Some n) = refl

-- the bytes of a layer are read from its base
pub bytes-read : (l : Layer) (size i : ℕ) {m cell : ℕ} {base : Base} {a b : List Insn} → base ≡ base_of l → Computes m (λ p. read_from base size p i) cell a b → Computes m (λ p. accessed l size p i) cell a b
bytes-read l size i {m} {cell} {base} {a} {b} is computes =
    computes-same (λ p. read_from base size p i) (λ p. accessed l size p i) (λ p. ap (λ x. read_from x size p i) is ∙ ap (λ f. f p i) (read-accessed l size)) computes
