-- What the OUTs of a split have once they are closed.
use Rattle.std.proofs.Common.{◌≡◌, ◌≢◌, ◌⊎◌, inl, inr, ℕ, zero, suc, ◌<◌, ◌++◌, Bool, true, false, List, [], ◌∷◌, All, Bor, get_or, length, refl, sym, ◌∙◌, ap, subst, arith, Option, Some, None, IfSome, Result, Ok, Err}
use Rattle.std.specs.List.{AllZip}
use Rattle.std.specs.Str.{bytes_eq}
use Rattle.std.proofs.lemmas.List.{append-nil, append_assoc}
use Rattle.std.proofs.lemmas.Slice.Eq.{bytes_eq-Decides}
use Rattle.bpfvm.specs.declared.insn.Insn.{Insn}
use Rattle.savefile.specs.Laws.{WrittenTakesRoom}
use Rattle.savefile.specs.Writer.{IsBeginning}
use Rattle.savefile.specs.declared.fault.Fault.{Fault}
use Rattle.savefile.specs.declared.fault.Fault.TheVariants.{Device, CountFull}
use Rattle.savefile.specs.declared.header.Order.{Order}
use Rattle.savefile.specs.declared.header.Unit.{Unit as TimeUnit}
use Rattle.savefile.specs.declared.packet.Packet.{Packet}
use Rattle.pcap_cut.specs.declared.cut.Tally.{Tally}
use Rattle.cli_args.specs.declared.split.SplitWords.{SplitWords}
use Rattle.cli_store.specs.Files.{BeginsAt, Places, StoresAt, Texts}
use Rattle.cli_split.specs.Closed.{Closes, ClosesAll}
use Rattle.cli_split.specs.Lines.{IsCompiled, is_null}
use Rattle.cli_split.specs.Opened.{IsMadeOf}
use Rattle.cli_split.specs.SplitFiles.{HaveOwnFiles, IsCut}
use Rattle.cli_split.specs.Texts.{HoldsPart, NotesFailures}
use Rattle.cli_split.specs.declared.part.Part.{Part}
use Rattle.cli_split.specs.declared.part.PartEnd.{PartEnd}
use Rattle.cli_split.specs.declared.plan.SplitLine.{SplitLine}
use Rattle.cli_split.proofs.OwnFiles.{all-cons, all-head, all-map, all-none, all-tail}
use Rattle.cli_split.proofs.Texts.{EndsPart, holds-broken, holds-closed}

-- ---- Sources that failed

pub notes-stay : {R : Type 0} (failures : R → ℕ) (old new : Bool) (sources : List R) → (old ≡ true → new ≡ true) → NotesFailures failures old sources → NotesFailures failures new sources
notes-stay failures old new [] stays noted = tt
notes-stay failures old new (s ∷ ss) stays noted = (λ broke. stays (noted.0 broke), notes-stay failures old new ss stays noted.1)

-- there is none
pub notes-none : {R : Type 0} (failures : R → ℕ) (failed : Bool) (sources : List R) → length sources ≡ 0 → NotesFailures failures failed sources
notes-none failures failed [] none = tt
notes-none failures failed (s ∷ ss) none = absurd (omega (arith, none))

-- ---- OUTs that are closed one after the other

module _ {W X : Type 0} (taken : W → Option (List ℕ)) (name : W → List ℕ) (failures : W → ℕ) where
  -- a failure that was noted stays so
  pub closes-stay : (one failed : Bool) (old new : Texts) (part : PartEnd W) (closed : PartEnd X) → (one ≡ true → failed ≡ true) → Closes taken name failures one old new part closed
      → Closes taken name failures failed old new part closed
  closes-stay one failed old new part closed stays c = record {
    others = c.others;
    tally = c.tally;
    broke = λ e. stays (c.broke e);
    outcome = elim c.outcome as (λ _. ((closed.written ≡ part.written) × IfSome (taken part.sink) (StoresAt old new (name part.sink))) ⊎ ((closed.written ≡ Err Device) × (failed ≡ true) × IfSome (taken part.sink) (BeginsAt old new (name part.sink)))) [
      | inl whole ↦ inl whole
      | inr off ↦ inr (off.0, stays off.1, off.2)
    ];
  }

  -- What was closed so far completes with the rest to all.
  abbrev pub Follows : Bool → Texts → Texts → List (PartEnd W) → List (PartEnd X) → List (PartEnd W) → Type 0
  Follows now was old all made rest =
      (failed : Bool) (new : Texts) (more : List (PartEnd X)) → (now ≡ true → failed ≡ true) → ClosesAll taken name failures failed old new rest more
      → ClosesAll taken name failures failed was new all (made ++ more)

  pub follows-none : (now : Bool) (was : Texts) (all : List (PartEnd W)) (made : List (PartEnd X)) (rest : List (PartEnd W)) → length made ≡ 0 → rest ≡ all → Follows now was was all made rest
  follows-none now was all [] rest none same = λ failed new more stays c. subst (λ es. ClosesAll taken name failures failed was new es more) same c
  follows-none now was all (c ∷ cs) rest none same = absurd (omega (arith, none))

  pub follows-next : (now next : Bool) (was old mid : Texts) (all : List (PartEnd W)) (made made' : List (PartEnd X)) (e : PartEnd W) (rest rest' : List (PartEnd W)) (c : PartEnd X)
      → Follows now was old all made rest → rest ≡ e ∷ rest' → made' ≡ made ++ c ∷ [] → (now ≡ true → next ≡ true) → Closes taken name failures next old mid e c → Follows next was mid all made' rest'
  follows-next now next was old mid all made made' e rest rest' c follows taken-out given stays closes = λ failed new more fails z.
      let one : ClosesAll taken name failures failed old new (e ∷ rest') (c ∷ more) = (mid, closes-stay next failed old mid e c fails closes, z) in
      let whole = follows failed new (c ∷ more) (λ f. fails (stays f)) (subst (λ es. ClosesAll taken name failures failed old new es (c ∷ more)) (sym taken-out) one) in
      subst (λ cs. ClosesAll taken name failures failed was new all cs) (ap (λ cs. cs ++ more) (sym given))
      (subst (λ cs. ClosesAll taken name failures failed was new all cs) (sym (append_assoc made (c ∷ []) more)) whole)

  pub follows-all : (now : Bool) (was old : Texts) (all : List (PartEnd W)) (made : List (PartEnd X)) (rest : List (PartEnd W)) → Follows now was old all made rest → length rest ≡ 0
      → ClosesAll taken name failures now was old all made
  follows-all now was old all made [] follows none =
      subst (λ cs. ClosesAll taken name failures now was old all cs) (append-nil made) (follows now old [] (λ f. f) (λ p. refl))
  follows-all now was old all made (e ∷ es) follows none = absurd (omega (arith, none))

  -- closing changes no file but those that are closed
  pub untouched : (failed : Bool) (old new : Texts) (ends : List (PartEnd W)) (closed : List (PartEnd X)) → ClosesAll taken name failures failed old new ends closed
      → (p : List ℕ) → All (λ end. p ≢ name end.sink) ends → new p ≡ old p
  untouched failed old new [] [] closes p others = closes p
  untouched failed old new [] (c ∷ cs) closes p others = absurd closes
  untouched failed old new (e ∷ es) [] closes p others = absurd closes
  untouched failed old new (e ∷ es) (c ∷ cs) (mid, one, rest) p others =
      untouched failed mid new es cs rest p (all-tail (λ end. p ≢ name end.sink) e es others) ∙ one.others p (all-head (λ end. p ≢ name end.sink) e es others)

-- what takes nothing changes no file
pub nothing-put : (is : Bool) (old new : Texts) (at p : List ℕ) → bytes_eq p at ≡ is → ((q : List ℕ) → q ≢ at → new q ≡ old q) → new at ≡ old at → new p ≡ old p
nothing-put true old new at p e others same = subst (λ q. new q ≡ old q) (sym ((bytes_eq-Decides p at).0 e)) same
nothing-put false old new at p e others same = others p (λ eq. let wrong : true ≡ false = sym ((bytes_eq-Decides p at).1 eq) ∙ e in absurd cc)

-- ---- What the file of a line has

module _ {W : Type 0} (taken : W → Option (List ℕ)) (name : W → List ℕ) (failures : W → ℕ) (failed : Bool) (place : Places) (words : SplitWords) (packets : List Packet) (begun : Bool)
    (room : WrittenTakesRoom) where
  abbrev Ends : Part W → PartEnd W → Type 0
  Ends part end = EndsPart taken name failures words.order words.«unit» packets begun part end

  ends-named : (b : Bool) (part : Part W) (end : PartEnd W) → EndsPart taken name failures words.order words.«unit» packets b part end → name end.sink ≡ name part.sink
  ends-named true part end is = is.named
  ends-named false part end is = ap name is.sink

  -- the part was closed
  holds : {X : Type 0} (old new : Texts) (at : List ℕ) (part : Part W) (end : PartEnd W) (closed : PartEnd X) → taken part.sink ≡ Some [] → failures part.sink ≡ 0 → name part.sink ≡ at → Ends part end
      → Closes taken name failures failed old new end closed → HoldsPart begun old new failed at part.program part.snap words.order words.«unit» packets closed.tally closed.written
  holds old new at part end closed none works named is c =
      let here : name end.sink ≡ at = ends-named begun part end is ∙ named in
      let H : Tally → Result (Unit {0}) Fault → Type 0 = λ tally written. HoldsPart begun old new failed at part.program part.snap words.order words.«unit» packets tally written in
      subst (λ t. H t closed.written) (sym c.tally)
      (elim c.outcome as (λ _. H end.tally closed.written) [
        | inl whole ↦ subst (λ w. H end.tally w) (sym whole.0)
            (holds-closed taken name failures old new failed at words.order words.«unit» packets room part end none begun is works (subst (λ n. IfSome (taken end.sink) (StoresAt old new n)) here whole.1) c.broke)
        | inr off ↦ subst (λ w. H end.tally w) (sym off.0)
            (holds-broken taken name failures old new failed at words.order words.«unit» packets room part end none begun is (subst (λ n. IfSome (taken end.sink) (BeginsAt old new n)) here off.2) off.1)
      ])

  -- what holds from the file as it is holds from the file as it was
  begins-from : (first old new : Texts) (at text : List ℕ) → old at ≡ first at → BeginsAt old new at text → BeginsAt first new at text
  begins-from first old new at text same has = (
    λ none. has.0 none ∙ same,
    elim has.1 as (λ _. (new at ≡ first at) ⊎ ((front : List ℕ) × (new at ≡ Some front) × IsBeginning front text)) [ inl kept ↦ inl (kept ∙ same) | inr made ↦ inr made ],
  )

  holds-from : (b : Bool) (first old new : Texts) (at : List ℕ) (program : List Insn) (snap : ℕ) (tally : Tally) (written : Result (Unit {0}) Fault) → old at ≡ first at
      → HoldsPart b old new failed at program snap words.order words.«unit» packets tally written → HoldsPart b first new failed at program snap words.order words.«unit» packets tally written
  holds-from true first old new at program snap tally (Ok done) same has = has
  holds-from true first old new at program snap tally (Err Device) same has = (has.0, begins-from first old new at _ same has.1)
  holds-from true first old new at program snap tally (Err CountFull) same has = (has.0, begins-from first old new at _ same has.1)
  holds-from true first old new at program snap tally (Err other) same has = absurd has
  holds-from false first old new at program snap tally (Ok done) same has = has ∙ same
  holds-from false first old new at program snap tally (Err fault) same has = (has.0 ∙ same, has.1, has.2)

  -- of a device that keeps nothing there is some such text
  holds-somewhere : (b : Bool) (first old new : Texts) (at : List ℕ) (program : List Insn) (snap : ℕ) (tally : Tally) (written : Result (Unit {0}) Fault)
      → HoldsPart b old new failed at program snap words.order words.«unit» packets tally written
      → (got : Texts) × HoldsPart b first got failed at program snap words.order words.«unit» packets tally written
  holds-somewhere true first old new at program snap tally (Ok done) has = (new, has)
  holds-somewhere true first old new at program snap tally (Err Device) has = (first, (has.0, (λ none. refl, inl refl)))
  holds-somewhere true first old new at program snap tally (Err CountFull) has = (first, (has.0, (λ none. refl, inl refl)))
  holds-somewhere true first old new at program snap tally (Err other) has = absurd has
  holds-somewhere false first old new at program snap tally (Ok done) has = (first, refl)
  holds-somewhere false first old new at program snap tally (Err fault) has = (first, (refl, has.1, has.2))

  -- the files of lines that are not the null device are as they were
  abbrev IsAsBefore : Texts → Texts → SplitLine → Type 0
  IsAsBefore first old line = is_null line.output.now ≡ false → old (place line.output.now) ≡ first (place line.output.now)

  abbrev AreAsBefore : Texts → Texts → List SplitLine → Type 0
  AreAsBefore first old lines = All (IsAsBefore first old) lines

  -- a later line has another file, or both have the null device
  abbrev IsOther : SplitLine → SplitLine → Type 0
  IsOther line later = ((is_null line.output.now ≡ true) × (is_null later.output.now ≡ true)) ⊎ (place later.output.now ≢ place line.output.now)

  other-if-kept : (line later : SplitLine) → IsOther line later → is_null later.output.now ≡ false → place later.output.now ≢ place line.output.now
  other-if-kept line later (inl both) live = let wrong : true ≡ false = sym both.1 ∙ live in absurd cc
  other-if-kept line later (inr other) live = other

  other-if-first : (line later : SplitLine) → IsOther line later → is_null line.output.now ≡ false → place later.output.now ≢ place line.output.now
  other-if-first line later (inl both) live = let wrong : true ≡ false = sym both.0 ∙ live in absurd cc
  other-if-first line later (inr other) live = other

  abbrev Cut : {X : Type 0} → Texts → Texts → SplitLine → PartEnd X → Type 0
  Cut first new line closed = IsCut place first new failed words packets begun line closed

  abbrev Made : SplitLine → Part W → Type 0
  Made line part = IsMadeOf taken name failures place IsCompiled line part

  -- the part of a line was closed
  holds-line : {X : Type 0} (old mid : Texts) (line : SplitLine) (part : Part W) (end : PartEnd W) (closed : PartEnd X) → Made line part → Ends part end → Closes taken name failures failed old mid end closed
      → HoldsPart begun old mid failed (place line.output.now) part.program line.snap words.order words.«unit» packets closed.tally closed.written
  holds-line old mid line part end closed made ended c =
      subst (λ (n : ℕ). HoldsPart begun old mid failed (place line.output.now) part.program n words.order words.«unit» packets closed.tally closed.written) made.snap
      (holds old mid (place line.output.now) part end closed made.empty made.works made.named ended c)

  one-cut : {X : Type 0} (null : Bool) (first old mid new : Texts) (line : SplitLine) (part : Part W) (end : PartEnd W) (closed : PartEnd X) → is_null line.output.now ≡ null → Made line part → Ends part end
      → Closes taken name failures failed old mid end closed → (is_null line.output.now ≡ false → old (place line.output.now) ≡ first (place line.output.now))
      → (is_null line.output.now ≡ false → new (place line.output.now) ≡ mid (place line.output.now)) → Cut first new line closed
  one-cut true first old mid new line part end closed is made ended c before after =
      let some = holds-somewhere begun first old mid (place line.output.now) part.program line.snap closed.tally closed.written (holds-line old mid line part end closed made ended c) in
      record { program = part.program; stands = made.stands; got = some.0; holds = some.1; keeps = λ live. let wrong : true ≡ false = sym is ∙ live in absurd cc }
  one-cut false first old mid new line part end closed is made ended c before after = record {
    program = part.program;
    stands = made.stands;
    got = mid;
    holds = holds-from begun first old mid (place line.output.now) part.program line.snap closed.tally closed.written (before is) (holds-line old mid line part end closed made ended c);
    keeps = after;
  }

  -- what is no file of a line is none that was closed
  names : (lines : List SplitLine) (parts : List (Part W)) (ends : List (PartEnd W)) → AllZip Made lines parts → AllZip Ends parts ends → (p : List ℕ)
      → All (λ line. place line.output.now ≢ p) lines → All (λ end. p ≢ name end.sink) ends
  names [] [] [] made ended p others = all-none (λ end. p ≢ name end.sink)
  names [] [] (e ∷ es) made ended p others = absurd ended
  names [] (w ∷ ws) ends made ended p others = absurd made
  names (l ∷ ls) [] ends made ended p others = absurd made
  names (l ∷ ls) (w ∷ ws) [] made ended p others = absurd ended
  names (l ∷ ls) (w ∷ ws) (e ∷ es) made ended p others =
      all-cons (λ end. p ≢ name end.sink) e es
      (λ same. all-head (λ line. place line.output.now ≢ p) l ls others (sym (same ∙ ends-named begun w e ended.0 ∙ made.0.named)))
      (names ls ws es made.1 ended.1 p (all-tail (λ line. place line.output.now ≢ p) l ls others))

  -- later lines have other files, if a line has not the null device
  apart-from : (line : SplitLine) (lines : List SplitLine) → All (IsOther line) lines → is_null line.output.now ≡ false → All (λ later. place later.output.now ≢ place line.output.now) lines
  apart-from line lines apart live = all-map (IsOther line) (λ later. place later.output.now ≢ place line.output.now) (λ later other. other-if-first line later other live) lines apart

  -- the files of later lines are none that was closed here
  later-as-before : {X : Type 0} (first old mid : Texts) (line : SplitLine) (part : Part W) (end : PartEnd W) (closed : PartEnd X) (lines : List SplitLine) → Made line part → Ends part end
      → Closes taken name failures failed old mid end closed → All (IsOther line) lines → AreAsBefore first old lines → AreAsBefore first mid lines
  later-as-before first old mid line part end closed lines made ended c apart before = λ k d inside live.
      let later = get_or lines k d in
      let other = other-if-kept line later (apart k d inside) live in
      c.others (place later.output.now) (λ same. other (same ∙ ends-named begun part end ended ∙ made.named)) ∙ before k d inside live

  pub all-cut : {X : Type 0} (first old new : Texts) (lines : List SplitLine) (parts : List (Part W)) (ends : List (PartEnd W)) (closed : List (PartEnd X)) → AllZip Made lines parts → AllZip Ends parts ends
      → ClosesAll taken name failures failed old new ends closed → HaveOwnFiles place lines → AreAsBefore first old lines → AllZip (Cut first new) lines closed
  all-cut first old new [] [] [] [] made ended closes own before = tt
  all-cut first old new [] [] [] (c ∷ cs) made ended closes own before = absurd closes
  all-cut first old new [] [] (e ∷ es) closed made ended closes own before = absurd ended
  all-cut first old new [] (w ∷ ws) ends closed made ended closes own before = absurd made
  all-cut first old new (l ∷ ls) [] ends closed made ended closes own before = absurd made
  all-cut first old new (l ∷ ls) (w ∷ ws) [] closed made ended closes own before = absurd ended
  all-cut first old new (l ∷ ls) (w ∷ ws) (e ∷ es) [] made ended closes own before = absurd closes
  all-cut first old new (l ∷ ls) (w ∷ ws) (e ∷ es) (c ∷ cs) made ended (mid, one, rest) own before = (
    one-cut (is_null l.output.now) first old mid new l w e c refl made.0 ended.0 one (all-head (IsAsBefore first old) l ls before)
        (λ live. untouched taken name failures failed mid new es cs rest (place l.output.now) (names ls ws es made.1 ended.1 (place l.output.now) (apart-from l ls own.0 live))),
    all-cut first mid new ls ws es cs made.1 ended.1 rest own.1
        (later-as-before first old mid l w e c ls made.0 ended.0 one own.0 (all-tail (IsAsBefore first old) l ls before)),
  )

  pub all-others : {X : Type 0} (old new : Texts) (lines : List SplitLine) (parts : List (Part W)) (ends : List (PartEnd W)) (closed : List (PartEnd X)) → AllZip Made lines parts → AllZip Ends parts ends
      → ClosesAll taken name failures failed old new ends closed → (p : List ℕ) → All (λ line. place line.output.now ≢ p) lines → new p ≡ old p
  all-others old new lines parts ends closed made ended closes p others =
      untouched taken name failures failed old new ends closed closes p (names lines parts ends made ended p others)
