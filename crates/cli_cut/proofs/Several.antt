-- The outcome of the steps of a cut of several captures.
use Rattle.std.proofs.Common.{◌≡◌, ◌≢◌, ◌⊎◌, inl, inr, ℕ, zero, suc, ◌+◌, ◌<◌, ◌≤◌, List, [], ◌∷◌, ◌++◌, length, map, All, refl, sym, ◌∙◌, ap, subst, arith, fold, slice_index_or, Bool, true, false, Option, Some, None, IfSome, IfOk, IfErr, option_copied, Result, Ok, Err, Bor}
use Rattle.std.specs.List.{AllZip, Any}
use Rattle.std.proofs.lemmas.List.Elements.{All-map}
use Rattle.std.proofs.lemmas.Slice.Zip.{AllZip-long}
use Rattle.bpfvm.specs.declared.insn.Insn.{Insn}
use Rattle.savefile.specs.Laws.{WrittenTakesRoom}
use Rattle.savefile.specs.declared.fault.Fault.{Fault}
use Rattle.savefile.specs.declared.fault.Fault.TheVariants.{Device, CountFull}
use Rattle.savefile.specs.declared.header.Order.{Order}
use Rattle.savefile.specs.declared.header.Unit.{Unit as TimeUnit}
use Rattle.savefile.specs.declared.packet.Packet.{Packet}
use Rattle.savefile.specs.Writer.{IsBeginning}
use Rattle.pcap_cut.specs.Cut.{cut_text}
use Rattle.pcap_cut.specs.declared.cut.Tally.{Tally}
use Rattle.cli_text.specs.Status.{greater}
use Rattle.cli_text.specs.declared.status.Status.{Status}
use Rattle.cli_text.specs.declared.status.Status.TheVariants.{Clean, Failed}
use Rattle.cli_args.specs.declared.cut.CutWords.{CutWords}
use Rattle.cli_files.specs.declared.paths.PathFault.{PathFault}
use Rattle.cli_files.specs.declared.paths.PathFault.TheVariants as paths
use Rattle.cli_store.specs.Files.{BeginsAt, IsRefusal, NamesDenied, Places, StoresAt, Texts, text_at}
use Rattle.cli_split.specs.Closed.{Closes, ClosesAll}
use Rattle.cli_split.specs.Opened.{IsLate}
use Rattle.cli_split.specs.Splitting.{Splits, is_begun}
use Rattle.cli_split.specs.Statuses.{parts_status, split_status, stop_status, written_status}
use Rattle.cli_split.specs.Texts.{GivesText, HoldsPart, NotesFailures, ReadsTexts}
use Rattle.cli_split.specs.declared.part.Part.{Part}
use Rattle.cli_split.specs.declared.part.PartEnd.{PartEnd}
use Rattle.cli_split.specs.declared.split.SplitEnd.{SplitEnd}
use Rattle.cli_split.specs.declared.split.Stop.{Stop}
use Rattle.cli_split.proofs.Texts.{EndsPart, ends-parts, gives-mapped, holds-broken, holds-closed, reads-texts}
use Rattle.cli_cut.specs.Captures.{CutsAll, CutsPackets, IsUnopened, listing_path, texts_at}
use Rattle.cli_cut.specs.Cutting.{IsGiven, IsReason, IsShared, IsUncompared, IsUngiven, IsUnmade, SparesListing}
use Rattle.cli_cut.specs.declared.outcome.Refusal.{Refusal}
use Rattle.cli_cut.specs.declared.outcome.Refusal.TheVariants as refusal
use Rattle.cli_cut.proofs.Whole.{lost_alone, uncompared_reason, ungiven_reason, unmade_reason}

-- ---- Lists

any_later : {X : Type 0} (P : X → Type 0) (x : X) (xs : List X) → Any P xs → Any P (x ∷ xs)
any_later P x xs a = (suc a.0, a.1, omega (arith, a.2), a.3, a.4)

any_append : {X : Type 0} (P : X → Type 0) (xs ys : List X) → Any P (xs ++ ys) → Any P xs ⊎ Any P ys
any_append P [] ys a = inr a
any_append P (x ∷ xs) ys (zero, y, within, is, holds) = inl (zero, x, omega arith, refl, subst P (sym is) holds)
any_append P (x ∷ xs) ys (suc k, y, within, is, holds) =
    let rest : Any P (xs ++ ys) = (k, y, omega (arith, within), is, holds) in
    elim (any_append P xs ys rest) as (λ _. Any P (x ∷ xs) ⊎ Any P ys) [ inl a ↦ inl (any_later P x xs a) | inr b ↦ inr b ]

all_tail : {X : Type 0} (P : X → Type 0) (x : X) (xs : List X) → All P (x ∷ xs) → All P xs
all_tail P x xs all = λ k d within. all (suc k) d (omega (arith, within))

all_cons : {X : Type 0} (P : X → Type 0) (x : X) (xs : List X) → P x → All P xs → (k : ℕ) (d : X) → k < length (x ∷ xs) → P (slice_index_or (x ∷ xs) k d)
all_cons P x xs here rest zero d within = here
all_cons P x xs here rest (suc k) d within = rest k d (omega (arith, within))

pub all_front : {X : Type 0} (P : X → Type 0) (xs ys : List X) → All P (xs ++ ys) → All P xs
all_front P [] ys all = λ k d within. absurd (omega (arith, within))
all_front P (x ∷ xs) ys all = all_cons P x xs (all 0 x (omega arith)) (all_front P xs ys (all_tail P x (xs ++ ys) all))

all_back : {X : Type 0} (P : X → Type 0) (xs ys : List X) → All P (xs ++ ys) → All P ys
all_back P [] ys all = all
all_back P (x ∷ xs) ys all = all_back P xs ys (all_tail P x (xs ++ ys) all)

-- ---- The paths

spares_listed : (place : Places) (listing : Option (Bor (List ℕ))) (output : Bor (List ℕ)) → All (λ path. place path.now ≢ place output.now) (listing_path listing) →
    (path : List ℕ) → option_copied listing ≡ Some path → place path ≢ place output.now
spares_listed place None output all path is = absurd (cc)
spares_listed place (Some l) output all path is =
    let same : l.now ≡ path = cc in
    subst (λ (p : List ℕ). place p ≢ place output.now) same (all 0 l (omega arith))

pub spares_all : (place : Places) (words : CutWords) → All (λ path. place path.now ≢ place words.output.now) (words.inputs.items ++ listing_path words.listing) → SparesListing place words
spares_all place words all = spares_listed place words.listing words.output (all_back (λ (path : Bor (List ℕ)). place path.now ≢ place words.output.now) words.inputs.items (listing_path words.listing) all)

listed : (place : Places) (listing : Option (Bor (List ℕ))) (output : Bor (List ℕ)) → Any (λ path. place path.now ≡ place output.now) (listing_path listing) →
    (path : List ℕ) × (option_copied listing ≡ Some path) × (place path ≡ place output.now)
listed place None output a = absurd (omega (arith, a.2))
listed place (Some l) output (zero, y, within, is, holds) = (l.now, refl, subst (λ (p : Bor (List ℕ)). place p.now ≡ place output.now) (sym is) holds)
listed place (Some l) output (suc k, y, within, is, holds) = absurd (omega (arith, within))

pub shared_all : (place : Places) (printed : Option (List ℕ)) (failed : Bool) (denied : Option (List ℕ)) (words : CutWords) (read : List (Bor (List ℕ))) (fault : PathFault) → read ≡ words.inputs.items ++ listing_path words.listing →
    IsRefusal place printed failed false read (words.output ∷ []) fault → NamesDenied place denied fault → IsShared place failed denied words words.inputs.items fault
shared_all place printed failed denied words read (paths.Same path taken_for) is refuses named =
    let P : Bor (List ℕ) → Type 0 = λ (path : Bor (List ℕ)). place path.now ≡ place words.output.now in
    let lost : Any P (words.inputs.items ++ listing_path words.listing) = subst (Any P) is (lost_alone place printed read words.output refuses) in
    elim (any_append P words.inputs.items (listing_path words.listing) lost)
    as (λ _. Any P words.inputs.items ⊎ ((path : List ℕ) × (option_copied words.listing ≡ Some path) × (place path ≡ place words.output.now))) [
      | inl a ↦ inl a
      | inr b ↦ inr (listed place words.listing words.output b)
    ]
shared_all place printed failed denied words read (paths.Printed path) is refuses named = absurd (let f = refuses.0 in cc)
shared_all place printed failed denied words read (paths.Unknown path error) is refuses named = (refuses, named)
shared_all place printed failed denied words read paths.NoMemory is refuses named = refuses

-- OUT is none of the files that were opened
pub opened_apart : (place : Places) (opened before : List (List ℕ)) (inputs : List (Bor (List ℕ))) (at : List ℕ) → before ≡ [] → opened ≡ before ++ map (λ path. place path.now) inputs →
    All (λ input. place input.now ≢ at) inputs → All (λ read. read ≢ at) opened
opened_apart place opened before inputs at none is apart =
    let here : opened ≡ map (λ path. place path.now) inputs = is ∙ ap (λ (b : List (List ℕ)). b ++ map (λ path. place path.now) inputs) none in
    subst (All (λ (read : List ℕ). read ≢ at)) (sym here) (All-map (λ (read : List ℕ). read ≢ at) (λ (path : Bor (List ℕ)). place path.now) inputs apart)

-- ---- OUT, the only part

begun_same : {X R : Type 0} (S : X → R → Type 0) (xs : List X) (ss : List R) (end : Result (Unit {0}) Stop) → AllZip S xs ss → is_begun ss end ≡ is_begun xs end
begun_same S [] [] end each = refl
begun_same S [] (s ∷ ss) end each = absurd each
begun_same S (x ∷ xs) [] end each = absurd each
begun_same S (x ∷ xs) (s ∷ ss) end each = refl

module _ (old mid new : Texts) (failed : Bool) (at : List ℕ) (program : List Insn) (snap : ℕ) (order : Order) (unit : TimeUnit) (packets : List Packet) (tally : Tally) (same : new at ≡ mid at) where
  begins_to : (text : List ℕ) → BeginsAt old mid at text → BeginsAt old new at text
  begins_to text has = (
    (λ none. same ∙ has.0 none),
    elim has.1 as (λ _. (new at ≡ old at) ⊎ ((front : List ℕ) × (new at ≡ Some front) × IsBeginning front text)) [ inl kept ↦ inl (same ∙ kept) | inr made ↦ inr (made.0, same ∙ made.1, made.2) ],
  )

  holds_to : (begun : Bool) (written : Result (Unit {0}) Fault) → HoldsPart begun old mid failed at program snap order unit packets tally written →
      HoldsPart begun old new failed at program snap order unit packets tally written
  holds_to true (Ok done) has = (same ∙ has.0, has.1)
  holds_to true (Err Device) has = (has.0, begins_to (cut_text program snap order unit packets) has.1)
  holds_to true (Err CountFull) has = (has.0, begins_to (cut_text program snap order unit packets) has.1)
  holds_to true (Err other) has = absurd has
  holds_to false (Ok done) has = same ∙ has
  holds_to false (Err fault) has = (same ∙ has.0, has.1, has.2)

module _ {W : Type 0} (taken : W → Option (List ℕ)) (name : W → List ℕ) (failures : W → ℕ) (old new : Texts) (failed : Bool) (at : List ℕ) (order : Order) (unit : TimeUnit) (packets : List Packet) (begun : Bool)
    (room : WrittenTakesRoom) (part : Part W) (nothing : taken part.sink ≡ Some []) (works : failures part.sink ≡ 0) (named : name part.sink ≡ at) where
  abbrev Ended : Part W → PartEnd W → Type 0
  Ended = EndsPart taken name failures order unit packets begun

  ended_named : (b : Bool) (end : PartEnd W) → EndsPart taken name failures order unit packets b part end → name end.sink ≡ at
  ended_named true end is = is.named ∙ named
  ended_named false end is = ap name is.sink ∙ named

  abbrev Holds : Texts → Tally → Result (Unit {0}) Fault → Type 0
  Holds got tally written = HoldsPart begun old got failed at part.program part.snap order unit packets tally written

  closed_holds : {X : Type 0} (mid : Texts) (end : PartEnd W) (closed : PartEnd X) → Ended part end → Closes taken name failures failed old mid end closed → Holds mid closed.tally closed.written
  closed_holds mid end closed is c =
      let here : name end.sink ≡ at = ended_named begun end is in
      subst (λ t. Holds mid t closed.written) (sym c.tally)
      (elim c.outcome as (λ _. Holds mid end.tally closed.written) [
        | inl whole ↦ subst (λ w. Holds mid end.tally w) (sym whole.0)
            (holds-closed taken name failures old mid failed at order unit packets room part end nothing begun is works (subst (λ n. IfSome (taken end.sink) (StoresAt old mid n)) here whole.1) c.broke)
        | inr off ↦ subst (λ w. Holds mid end.tally w) (sym off.0)
            (holds-broken taken name failures old mid failed at order unit packets room part end nothing begun is (subst (λ n. IfSome (taken end.sink) (BeginsAt old mid n)) here off.2) off.1)
      ])

  -- what OUT has, and that no other file changed
  pub only : {X : Type 0} (ends : List (PartEnd W)) (closed : List (PartEnd X)) → AllZip Ended (part ∷ []) ends → ClosesAll taken name failures failed old new ends closed →
      ((out : PartEnd X) × (closed ≡ out ∷ []) × Holds new out.tally out.written) × ((p : List ℕ) → p ≢ at → new p ≡ old p)
  only [] closed each closes = absurd each
  only (e ∷ []) [] each closes = absurd closes
  only (e ∷ []) (c ∷ []) each (mid, one, rest) = (
    (c, refl, holds_to old mid new failed at part.program part.snap order unit packets c.tally (rest at) begun c.written (closed_holds mid e c each.0 one)),
    (λ p other. rest p ∙ one.others p (λ same. other (same ∙ ended_named begun e each.0))),
  )
  only (e ∷ []) (c ∷ d ∷ cs) each closes = absurd closes.2
  only (e ∷ f ∷ es) closed each closes = absurd each.1

-- ---- The cut

-- OUT, as it is given to the split
abbrev pub part_of : {W : Type 0} → CutWords → List Insn → W → Part W
part_of words program sink = record { program = program; snap = words.snap; sink = sink }

module _ {R W : Type 0} (left : R → Option (List ℕ)) (broken : R → ℕ) (taken : W → Option (List ℕ)) (name : W → List ℕ) (failures : W → ℕ) (words : CutWords) (program : List Insn) (sink : W)
    (captures : List R) (parts : List (Part W)) (split : SplitEnd R W) (splits : Splits left broken taken name failures captures parts words.order words.«unit» split) (is : parts ≡ part_of words program sink ∷ []) where
  abbrev Ends : List (Part W) → Type 0
  Ends ps = AllZip (EndsPart taken name failures words.order words.«unit» splits.packets (is_begun captures split.end)) ps split.parts.items

  ended : Ends parts
  ended = ends-parts taken name failures words.order words.«unit» splits.packets (is_begun captures split.end) parts split.parts.items splits.writes

  pub one_end : length split.parts.items ≡ 1
  one_end = AllZip-long (EndsPart taken name failures words.order words.«unit» splits.packets (is_begun captures split.end)) parts split.parts.items ended ∙ ap length is

  pub outcome : {S X : Type 0} (place : Places) (old new : Texts) (failed : Bool) (room : WrittenTakesRoom) (end : SplitEnd S X) → taken sink ≡ Some [] → failures sink ≡ 0 → name sink ≡ place words.output.now →
      ClosesAll taken name failures failed old new split.parts.items end.parts.items →
      ((out : PartEnd X) × (end.parts.items ≡ out ∷ []) × HoldsPart (is_begun captures split.end) old new failed (place words.output.now) program words.snap words.order words.«unit» splits.packets out.tally out.written)
      × ((p : List ℕ) → p ≢ place words.output.now → new p ≡ old p)
  outcome place old new failed room end nothing works named closes =
      only taken name failures old new failed (place words.output.now) words.order words.«unit» splits.packets (is_begun captures split.end) room (part_of words program sink) nothing works named
      split.parts.items end.parts.items (subst Ends is ended) closes

  pub cuts_packets : {S X : Type 0} (place : Places) (old new : Texts) (failed : Bool) (room : WrittenTakesRoom) (end : SplitEnd S X) → taken sink ≡ Some [] → failures sink ≡ 0 → name sink ≡ place words.output.now →
      ClosesAll taken name failures failed old new split.parts.items end.parts.items → AllZip (IsLate left broken place old) words.inputs.items captures →
      NotesFailures broken failed split.sources.items → end.end ≡ split.end → CutsPackets place old new failed words program end
  cuts_packets place old new failed room end nothing works named closes late noted same =
      let out = (outcome place old new failed room end nothing works named closes).0 in
      let texts = texts_at place old words.inputs.items in
      let gives : AllZip (GivesText left broken) texts captures = gives-mapped left broken (λ (path : Bor (List ℕ)). text_at old (place path.now)) words.inputs.items captures late in
      let reads : ReadsTexts failed (length splits.packets) 0 texts splits.packets split.end =
      reads-texts left broken failed (length splits.packets) 0 texts captures split.sources.items splits.packets split.end gives noted splits.reads in
      let begins : is_begun captures split.end ≡ is_begun words.inputs.items end.end =
      begun_same (IsLate left broken place old) words.inputs.items captures split.end late ∙ ap (λ (e : Result (Unit {0}) Stop). is_begun words.inputs.items e) (sym same) in
      record {
        packets = splits.packets;
        reads = subst (λ (e : Result (Unit {0}) Stop). ReadsTexts failed (length splits.packets) 0 texts splits.packets e) (sym same) reads;
        part = out.0;
        alone = out.1;
        holds = subst (λ (b : Bool). HoldsPart b old new failed (place words.output.now) program words.snap words.order words.«unit» splits.packets out.0.tally out.0.written) begins out.2;
      }

-- ---- The command

module _ (failed : Bool) (denied : Option (List ℕ)) (words : CutWords) where
  by_result : {R W : Type 0} (place : Places) (old new : Texts) (result : Result (SplitEnd R W) Refusal) (program : List Insn) → IsGiven place old (option_copied words.listing) (option_copied words.expr) words.snap program →
      All (λ input. place input.now ≢ place words.output.now) words.inputs.items → SparesListing place words → ((p : List ℕ) → p ≢ place words.output.now → new p ≡ old p) →
      IfOk result (CutsPackets place old new failed words program) → IfErr result (λ r. (new ≡ old) × IsUnmade place denied words r) → CutsAll place old new failed denied words result
  by_result place old new (Ok end) program given apart spares others cuts refused =
      record { others = others; came_to = record { program = program; given = given; apart = apart; spares = spares; cuts = cuts } }
  by_result place old new (Err r) program given apart spares others cuts refused =
      record { others = others; came_to = (unmade_reason place old failed denied words words.inputs.items r refused.1, λ p. ap (λ (t : Texts). t p) refused.0) }

  pub cut_all : {R W : Type 0} (place-old place : Places) (first old new : Texts) (result : Result (SplitEnd R W) Refusal) (program : List Insn) → place ≡ place-old → old ≡ first →
      IsGiven place-old first (option_copied words.listing) (option_copied words.expr) words.snap program → All (λ input. place-old input.now ≢ place-old words.output.now) words.inputs.items → SparesListing place-old words →
      ((p : List ℕ) → p ≢ place words.output.now → new p ≡ old p) → IfOk result (CutsPackets place old new failed words program) → IfErr result (λ r. (new ≡ old) × IsUnmade place denied words r) →
      CutsAll place-old first new failed denied words result
  cut_all place-old place first old new result program places texts given apart spares others cuts refused =
      let given-here = subst (λ (t : Texts). IsGiven place t (option_copied words.listing) (option_copied words.expr) words.snap program) (sym texts)
      (subst (λ (pl : Places). IsGiven pl first (option_copied words.listing) (option_copied words.expr) words.snap program) (sym places) given) in
      let apart-here = subst (λ (pl : Places). All (λ input. pl input.now ≢ pl words.output.now) words.inputs.items) (sym places) apart in
      let spares-here = subst (λ (pl : Places). SparesListing pl words) (sym places) spares in
      subst (λ (t : Texts). CutsAll place-old t new failed denied words result) texts
      (subst (λ (pl : Places). CutsAll pl old new failed denied words result) places (by_result place old new result program given-here apart-here spares-here others cuts refused))

  refused_all : {R W : Type 0} (place : Places) (old new : Texts) (r : Refusal) → new ≡ old → IsReason place old failed denied words words.inputs.items r → CutsAll {R = R} {W = W} place old new failed denied words (Err r)
  refused_all place old new r texts is =
      let same : (p : List ℕ) → new p ≡ old p = λ p. ap (λ (t : Texts). t p) texts in
      record { others = λ p other. same p; came_to = (is, same) }

  pub ungiven_all : {R W : Type 0} (place : Places) (old new : Texts) (r : Refusal) → new ≡ old → IsUngiven place old denied (option_copied words.listing) (option_copied words.expr) words.snap r →
      CutsAll {R = R} {W = W} place old new failed denied words (Err r)
  ungiven_all place old new r texts is = refused_all place old new r texts (ungiven_reason place old failed denied words words.inputs.items r is)

  pub uncompared_all : {R W : Type 0} (place-old place : Places) (old new : Texts) (r : Refusal) → place ≡ place-old → new ≡ old → IsUncompared place failed denied words words.inputs.items r →
      CutsAll {R = R} {W = W} place-old old new failed denied words (Err r)
  uncompared_all place-old place old new r places texts is =
      refused_all place-old old new r texts (uncompared_reason place-old old failed denied words words.inputs.items r (subst (λ (pl : Places). IsUncompared pl failed denied words words.inputs.items r) places is))

  unopened_reason : (place : Places) (old : Texts) (r : Refusal) → IsUnopened place denied words.inputs.items r → IsReason place old failed denied words words.inputs.items r
  unopened_reason place old (refusal.File path error) is = (inl (inl is.0), is.1)
  unopened_reason place old refusal.NoMemory is = is
  unopened_reason place old (refusal.Filter kept fault) is = absurd is
  unopened_reason place old (refusal.TextTooLong path) is = absurd is
  unopened_reason place old (refusal.Paths fault) is = absurd is

  pub unopened_all : {R W : Type 0} (place-old place : Places) (old new : Texts) (r : Refusal) → place ≡ place-old → new ≡ old → IsUnopened place denied words.inputs.items r →
      CutsAll {R = R} {W = W} place-old old new failed denied words (Err r)
  unopened_all place-old place old new r places texts is =
      refused_all place-old old new r texts (unopened_reason place-old old r (subst (λ (pl : Places). IsUnopened pl denied words.inputs.items r) places is))

-- ---- The exit status

stays_failed : {W : Type 0} (parts : List (PartEnd W)) → fold (λ status part. greater status (written_status part.written)) Failed parts ≡ Failed
stays_failed [] = refl
stays_failed (p ∷ ps) = stays_failed ps

-- a first part that failed makes all fail
pub failed_first : {R W : Type 0} (end : SplitEnd R W) (part : PartEnd W) (others : List (PartEnd W)) → end.parts.items ≡ part ∷ others → written_status part.written ≡ Failed → split_status end ≡ Failed
failed_first {R} {W} end part others is failed =
    let all : parts_status (part ∷ others) ≡ Failed =
    subst (λ (s : Status). fold (λ status (p : PartEnd W). greater status (written_status p.written)) (greater Clean s) others ≡ Failed) (sym failed) (stays_failed others) in
    ap (λ (ps : List (PartEnd W)). greater (parts_status ps) (stop_status end.end)) is ∙ ap (λ (s : Status). greater s (stop_status end.end)) all
