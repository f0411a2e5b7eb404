-- Lists of addresses of IPv4.
use Rattle.std.proofs.Common.{◌≡◌, ℕ, suc, ◌+◌, ◌*◌, ◌<◌, ◌≤◌, ◌⊎◌, inl, inr, Bool, true, false, List, ◌∷◌, ◌++◌, length, take, drop, Option, Some, None, refl, sym, ap, ◌∙◌, arith, if◌then◌else◌, bit_and, option_map}
use Rattle.std.proofs.lemmas.Bool.{cases_lt}
use Rattle.std.proofs.lemmas.List.{length-append}
use Rattle.bpfvm.specs.declared.insn.Insn.{Insn}
use Rattle.bpfvm.specs.Codes.{Accumulator, Index}
use Rattle.bpfvm.specs.Machine.{Registers, with_value, loaded, big_endian}
use Rattle.filter_meaning.proofs.Numbers.{number-some, number-none}
use Rattle.filter_meaning.specs.declared.verdict.Verdict.TheVariants.{Yes, No}
use Rattle.filter_tree.specs.declared.tree.Direction.{Direction}
use Rattle.filtergen_code.proofs.Sides.{directed, directed-is}
use Rattle.filter_meaning.specs.Meaning.{Packet, HasBytes, Test, by_direction, or_else, or_test, check, decided, byte, word, within}
use Rattle.filtergen_facts.specs.declared.lists.ValueRange.{ValueRange}
use Rattle.filtergen_facts.specs.Lists.{any_of, in_range}
use Rattle.filtergen_code.specs.declared.code.Exits.{Exits}
use Rattle.filtergen_code.specs.declared.value_in_list.Location.{Location}
use Rattle.filtergen_code.specs.declared.value_in_list.Location.TheVariants as locations
use Rattle.filtergen_code.specs.Insns.{plain_insn}
use Rattle.filtergen_code.specs.Emission.{AreExits, HasCells, run_from, front, Answers, Extends, outcome, same_index, Follows, Decides}
use Rattle.filtergen_code.specs.ValueLists.{in_ranges, location_value, found_at, onward, LoadsLocation, ChoosesFrom, IsChoice}
use Rattle.filtergen_code.proofs.Runs.{after, answer-first, front-place, extends-one, extends-both, extends-more, length-effect}
use Rattle.filtergen_code.proofs.Following.{decides-followed}
use Rattle.filtergen_facts.proofs.Joining.{any-same}
use Rattle.filtergen_code.proofs.Seeking.{choice-from, found-checked, follows-sought, sides-shared, location-masked}

-- the bits of an address under a mask
abbrev pub bits_at : ℕ → ℕ → Packet → Option ℕ
bits_at mask o p = option_map (λ w. bit_and w mask) (word o p)

-- the spot of an address
abbrev pub IsAddress : Location → ℕ → ℕ → Type 0
IsAddress location mask o = (p : Packet) (r : Registers) → HasBytes p → location_value location r p ≡ bits_at mask o p

found-is : (location : Location) (mask o : ℕ) (p : Packet) (r : Registers) (x : ValueRange) → HasBytes p → IsAddress location mask o → found_at location r x p ≡ in_range x mask o p
found-is location mask o p r x bytes is = ap (check (within x.low x.high)) (is p r bytes) ∙ location-masked o mask p r x

directed-same : (d : Direction) (s t s' t' : Test) (p : Packet) → s p ≡ s' p → t p ≡ t' p → by_direction d s t p ≡ by_direction d s' t' p
directed-same d s t s' t' p first second =
    sym (directed-is d s t p) ∙ ap (λ v. directed d v (t p)) first ∙ ap (directed d (s' p)) second ∙ directed-is d s' t' p

-- by spots of their own
pub decides-locations : {most e : ℕ} (direction : Direction) (source destination : Location) (mask s d : ℕ) (xs : List ValueRange) {exits : Exits} {a b : List Insn}
    → IsAddress source mask s → IsAddress destination mask d
    → Follows same_index most (λ r. any_of (λ x. by_direction direction (found_at source r x) (found_at destination r x)) xs) exits e a b
    → Decides most (any_of (λ x. by_direction direction (in_range x mask s) (in_range x mask d)) xs) exits e a b
decides-locations direction source destination mask s d xs is-source is-destination done =
    decides-followed _ (any_of (λ x. by_direction direction (in_range x mask s) (in_range x mask d)) xs)
    (λ r p bytes.
    any-same (λ x. by_direction direction (found_at source r x) (found_at destination r x)) (λ x. by_direction direction (in_range x mask s) (in_range x mask d)) p
    (λ x. directed-same direction (found_at source r x) (found_at destination r x) (in_range x mask s) (in_range x mask d) p
    (found-is source mask s p r x bytes is-source) (found-is destination mask d p r x bytes is-destination)) xs)
    done

-- one load for all members
pub decides-address : (location : Location) (mask o : ℕ) (xs : List ValueRange) {exits : Exits} {a b : List Insn} → IsAddress location mask o → AreExits a exits → 0 < length xs
    → IsChoice (λ r. in_ranges xs r.accumulator) exits (length a) a → LoadsLocation location a b → Decides 2 (any_of (λ x. in_range x mask o) xs) exits (length b) a b
decides-address location mask o xs is are some last load =
    decides-followed (λ r. any_of (found_at location r) xs) (any_of (λ x. in_range x mask o) xs)
    (λ r p bytes. any-same (found_at location r) (λ x. in_range x mask o) p (λ x. found-is location mask o p r x bytes is) xs)
    (follows-sought location xs are some refl (choice-from (λ r. in_ranges xs r.accumulator) last) load)

-- The first member's source. Where the destination is there, the sources of all others, and then the destinations of all.
pub decides-either-address : {j k e f : ℕ} (source destination : Location) (mask s d : ℕ) (ranges others first : List ValueRange) {exits : Exits} {a b c g h : List Insn}
    → IsAddress source mask s → IsAddress destination mask d → ranges ≡ others ++ first → length first ≡ 1 → 0 < length others
    → AreExits a exits → IsChoice (λ r. in_ranges ranges r.accumulator) exits (length a) a → LoadsLocation destination a b
    → ChoosesFrom j (λ r. in_ranges others r.accumulator) (record { yes = exits.yes; no = length b }) e b c → e ≡ length c
    → ChoosesFrom k (λ r. in_ranges first r.accumulator) (record { yes = exits.yes; no = suc (length c) }) f (plain_insn 0xb1 (d + 3) ∷ c) g → f ≡ length g
    → LoadsLocation source g h
    → Decides (j + k + 5) (any_of (λ x. or_test (in_range x mask s) (in_range x mask d)) ranges) exits (length h) a h
decides-either-address {j} {k} {e} {f} source destination mask s d ranges others first {exits} {a} {b} {c} {g} {h} is-source is-destination is one some are last last-load second at second-begin at' load = record {
  extends = extends-more (j + k + 5) (omega arith) (extends-both earlier (extends-both second-begin.extends load.extends));
  here = (omega (arith, second-begin.here.0, second-begin.here.1, load.extends.longer), omega arith);
  decides = λ p m n bytes yes' no'. record {
    always = λ r cells.
        front-place h p r ∙ load.loads p r ∙ ap (λ v. onward v (front g p) r) (is-source p r bytes)
        ∙ by_source p m n bytes yes' no' r cells (bits_at mask s p)
        ∙ ap (λ v. outcome v m n) (shared p r);
  };
}
  where
    header : Insn
    header = plain_insn 0xb1 (d + 3)

    earlier : Extends (2 + j + 1) a (header ∷ c)
    earlier = extends-both (extends-both last-load.extends second.extends) (extends-one header c)

    asked : Packet → Option ℕ → Option ℕ → ℕ → ℕ → ℕ
    asked p v w m n = outcome (or_else (check (in_ranges first) v) (or_else (check (in_ranges ranges) w) (check (in_ranges others) v))) m n

    shared : (p : Packet) (r : Registers)
        → or_else (check (in_ranges first) (bits_at mask s p)) (or_else (check (in_ranges ranges) (bits_at mask d p)) (check (in_ranges others) (bits_at mask s p)))
        ≡ any_of (λ x. or_test (in_range x mask s) (in_range x mask d)) ranges p
    shared p r =
        let v = bits_at mask s p in
        let w = bits_at mask d p in
        let many : 0 < length ranges = omega (arith, ap length is, length-append others first) in
        ap (λ u. or_else u (or_else (check (in_ranges ranges) w) (check (in_ranges others) v))) (sym (found-checked (locations.Masked s mask) r p first (omega (arith, one))))
        ∙ ap (λ u. or_else (any_of (found_at (locations.Masked s mask) r) first p) (or_else u (check (in_ranges others) v))) (sym (found-checked (locations.Masked d mask) r p ranges many))
        ∙ ap (λ u. or_else (any_of (found_at (locations.Masked s mask) r) first p) (or_else (any_of (found_at (locations.Masked d mask) r) ranges p) u)) (sym (found-checked (locations.Masked s mask) r p others some))
        ∙ sides-shared (locations.Masked s mask) (locations.Masked d mask) r p ranges others first is one some
        ∙ any-same (λ x. or_test (found_at (locations.Masked s mask) r x) (found_at (locations.Masked d mask) r x)) (λ x. or_test (in_range x mask s) (in_range x mask d)) p
        (λ x. ap (λ u. or_else u (found_at (locations.Masked d mask) r x p)) (location-masked s mask p r x) ∙ ap (or_else (in_range x mask s p)) (location-masked d mask p r x)) ranges

    by_last : (t : Bool) (k l m n : ℕ) → k ≡ m → l ≡ n → (if t then k else l) ≡ outcome (or_else (decided t) No) m n
    by_last true k l m n first' second' = first'
    by_last false k l m n first' second' = second'

    either-yes : (t : Bool) (m n : ℕ) → m ≡ outcome (or_else (decided t) Yes) m n
    either-yes true m n = refl
    either-yes false m n = refl

    -- the destination, y, is there, and x is the source
    by_others : (p : Packet) (m n : ℕ) → HasBytes p → Answers a exits.yes p m → Answers a exits.no p n → (r : Registers) → HasCells r → (y : ℕ) → bits_at mask d p ≡ Some y → (t : Bool)
        → (if t then run_from b exits.yes p r else run_from b (length b) p r) ≡ outcome (or_else (decided (in_ranges ranges y)) (decided t)) m n
    by_others p m n bytes yes' no' r cells y there true = last-load.extends.same exits.yes p r are.0.1 ∙ yes'.always r cells ∙ either-yes (in_ranges ranges y) m n
    by_others p m n bytes yes' no' r cells y there false =
        let r' = with_value Accumulator y r in
        front-place b p r ∙ last-load.loads p r ∙ ap (λ v. onward v (front a p) r) (is-destination p r bytes ∙ there)
        ∙ sym (front-place a p r') ∙ last.chooses p r'
        ∙ by_last (in_ranges ranges y) _ _ m n (yes'.always r' cells) (no'.always r' cells)

    by_length : (p : Packet) (m n : ℕ) → HasBytes p → Answers a exits.yes p m → Answers a exits.no p n → (r : Registers) → HasCells r
        → (length p.captured < d + 4) ⊎ (d + 4 ≤ length p.captured)
        → after c p (loaded Index r (option_map (λ x. 4 * bit_and x 15) (byte (d + 3) p))) ≡ outcome (or_else (check (in_ranges ranges) (bits_at mask d p)) (decided (in_ranges others r.accumulator))) m n
    by_length p m n bytes yes' no' r cells (inl past) =
        ap (λ v. after c p (loaded Index r (option_map (λ x. 4 * bit_and x 15) v))) (number-none p.captured (d + 3) 1 (omega arith))
        ∙ sym (ap (λ v. outcome (or_else (check (in_ranges ranges) (option_map (λ w. bit_and w mask) v)) (decided (in_ranges others r.accumulator))) m n) (number-none p.captured d 4 past))
    by_length p m n bytes yes' no' r cells (inr inside) =
        let x = big_endian (take 1 (drop (d + 3) p.captured)) in
        let r' = with_value Index (4 * bit_and x 15) r in
        let there : bits_at mask d p ≡ Some (bit_and (big_endian (take 4 (drop d p.captured))) mask) = ap (option_map (λ w. bit_and w mask)) (number-some p.captured d 4 inside) in
        ap (λ v. after c p (loaded Index r (option_map (λ x'. 4 * bit_and x' 15) v))) (number-some p.captured (d + 3) 1 (omega arith))
        ∙ sym (ap (λ place. run_from c place p r') at ∙ front-place c p r')
        ∙ second.chooses p r'
        ∙ by_others p m n bytes yes' no' r' cells (bit_and (big_endian (take 4 (drop d p.captured))) mask) there (in_ranges others r.accumulator)
        ∙ sym (ap (λ v. outcome (or_else (check (in_ranges ranges) v) (decided (in_ranges others r.accumulator))) m n) there)

    by_first : (p : Packet) (m n : ℕ) → HasBytes p → Answers a exits.yes p m → Answers a exits.no p n → (r : Registers) → HasCells r → (t : Bool)
        → (if t then run_from (header ∷ c) exits.yes p r else run_from (header ∷ c) (suc (length c)) p r)
        ≡ outcome (or_else (decided t) (or_else (check (in_ranges ranges) (bits_at mask d p)) (decided (in_ranges others r.accumulator)))) m n
    by_first p m n bytes yes' no' r cells true = earlier.same exits.yes p r are.0.1 ∙ yes'.always r cells
    by_first p m n bytes yes' no' r cells false =
        front-place (header ∷ c) p r ∙ answer-first header c p r _ (length-effect (d + 3) p r)
        ∙ by_length p m n bytes yes' no' r cells (cases_lt (length p.captured) (d + 4))

    by_source : (p : Packet) (m n : ℕ) → HasBytes p → Answers a exits.yes p m → Answers a exits.no p n → (r : Registers) → HasCells r → (v : Option ℕ)
        → onward v (front g p) r ≡ asked p v (bits_at mask d p) m n
    by_source p m n bytes yes' no' r cells None = refl
    by_source p m n bytes yes' no' r cells (Some x) =
        let r' = with_value Accumulator x r in
        sym (ap (λ place. run_from g place p r') at' ∙ front-place g p r')
        ∙ second-begin.chooses p r'
        ∙ by_first p m n bytes yes' no' r' cells (in_ranges first x)
