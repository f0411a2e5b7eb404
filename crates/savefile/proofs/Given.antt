-- What a reader has given, call after call.
use Rattle.std.proofs.Common.{◌⊎◌, ◌≡◌, ℕ, ◌+◌, inl, inr, List, [], ◌∷◌, ◌++◌, length, drop, Option, Some, None, IfSome, refl, sym, ap, subst, ◌∙◌, append_assoc, unwrap_or, arith, length-append}
use Rattle.std.proofs.lemmas.List.{append-nil}
use Rattle.std.specs.Io.KnownBytes.{Consumes, IsAtEnd, prepend_known}
use Rattle.savefile.specs.declared.fault.Fault.{Fault}
use Rattle.savefile.specs.declared.fault.Fault.TheVariants.{Device}
use Rattle.savefile.specs.declared.header.Header.{Header}
use Rattle.savefile.specs.declared.header.Order.{Order}
use Rattle.savefile.specs.declared.header.Unit.{Unit as TimeUnit}
use Rattle.savefile.specs.declared.packet.Packet.{Packet}
use Rattle.savefile.specs.Reader.{HasGiven, IsCause, Reading, WasRead}
use Rattle.savefile.specs.Savefile.{first_fault, AreRecords, Holds, IsRecord, IsSavefile, NoRecord}
use Rattle.savefile.proofs.EveryText.{all_records}
use Rattle.savefile.proofs.Pieces.{IsRecord-alone, IsSavefile-front, IsSavefile-push}
use Rattle.savefile.proofs.Records.{longest_records, NoRecord-fault, NoRecord-nil}

-- what was passed, and then more of it
passed_more : (start old new : Option (List ℕ)) (before after text more part : List ℕ) → Consumes start (prepend_known before old) text → Consumes old new more → before ++ more ≡ part ++ after
    → Consumes start (prepend_known after new) (text ++ part)
passed_more None old new before after text more part p q e = tt
passed_more (Some s) None new before after text more part p q e = absurd p
passed_more (Some s) (Some o) None before after text more part p q e = absurd q
passed_more (Some s) (Some o) (Some n) before after text more part p q e =
    p
    ∙ ap (λ (t : List ℕ). text ++ (before ++ t)) q
    ∙ ap (λ (t : List ℕ). text ++ t) (sym (append_assoc before more n) ∙ ap (λ (t : List ℕ). t ++ n) e ∙ append_assoc part after n)
    ∙ sym (append_assoc text part (after ++ n))

-- the whole text, where what is left is known
pub whole_text : (start left : Option (List ℕ)) (waiting text rest : List ℕ) → Consumes start (prepend_known waiting left) text → IfSome left (λ bytes. bytes ≡ rest) → IfSome start (λ bytes. bytes ≡ text ++ (waiting ++ rest))
whole_text None left waiting text rest p is = tt
whole_text (Some s) None waiting text rest p is = absurd p
whole_text (Some s) (Some l) waiting text rest p is = p ∙ ap (λ (t : List ℕ). text ++ (waiting ++ t)) is

-- at its end a source has nothing left
at_end : (left : Option (List ℕ)) → IsAtEnd left → IfSome left (λ bytes. bytes ≡ [])
at_end None e = tt
at_end (Some bytes) e = e

-- a savefile of these packets, and after it no record
holds_before : (text rest : List ℕ) (h : Header) (ps : List Packet) (fault : Option Fault) → IsSavefile text h.order h.unit h.snap ps []
    → NoRecord h.order h.unit rest → fault ≡ first_fault h.order h.unit (length ps) rest → Holds (text ++ rest) h.order h.unit h.snap ps fault
holds_before text rest h ps fault s none ends =
    let whole = IsSavefile-front text rest h.order h.unit h.snap ps [] s in
    record {
      rest = rest;
      reads = whole;
      longest = λ others after o. longest_records h.order h.unit (drop 24 (text ++ rest)) ps others rest after whole.records none o.records;
      ends = ends;
    }

-- one packet more
pub gives_packet : {R : Type 0} (left : R → Option (List ℕ)) (start : Option (List ℕ)) (h : Header) (ps : List Packet) (a b : Reading R)
    → HasGiven left start h ps a → b.header ≡ a.header → b.given ≡ a.given + 1 → b.ended ≡ a.ended → b.failed ≡ a.failed
    → (more : List ℕ) × Consumes (left a.source) (left b.source) more × IsRecord a.header.order a.header.unit (a.ahead ++ more) b.lent b.ahead
    → HasGiven left start h (ps ++ b.lent ∷ []) b
gives_packet left start h ps a b g same counts ended failed passes =
    let header : a.header ≡ h = g.told in
    let r = subst (λ (x : Header). IsRecord x.order x.unit (a.ahead ++ passes.0) b.lent b.ahead) header passes.2 in
    let alone = IsRecord-alone h.order h.unit (a.ahead ++ passes.0) b.lent b.ahead r in
    record {
      text = g.text ++ alone.0;
      reads = IsSavefile-push g.text alone.0 [] h.order h.unit h.snap ps b.lent g.reads alone.2;
      still_to_pass = passed_more start (left a.source) (left b.source) a.ahead b.ahead g.text passes.0 alone.0 g.still_to_pass passes.1 alone.1;
      told = same ∙ g.told;
      counts = omega (arith, counts, g.counts, length-append ps (b.lent ∷ []));
      goes_on = (ended ∙ g.goes_on.0, failed ∙ g.goes_on.1);
    }

-- all packets, and nothing after them, where the source is this one and these bytes wait
pub gives_all : {R : Type 0} (left : R → Option (List ℕ)) (start : Option (List ℕ)) (h : Header) (ps : List Packet) (a : Reading R) (source : R) (waiting : List ℕ)
    → HasGiven left start h ps a → ((more : List ℕ) × (waiting ≡ a.ahead ++ more) × Consumes (left a.source) (left source) more) × (waiting ≡ []) × IsAtEnd (left source)
    → WasRead start h ps None
gives_all left start h ps a source waiting g (grows, nothing, end) =
    let rest = waiting ++ [] in
    let none : rest ≡ [] = append-nil waiting ∙ nothing in
    let passed = passed_more start (left a.source) (left source) a.ahead waiting g.text grows.0 [] g.still_to_pass grows.2 (sym grows.1) in
    let all = rw append-nil at passed in
    record {
      text = g.text ++ rest;
      told = whole_text start (left source) waiting g.text [] all (at_end (left source) end);
      holds = holds_before g.text rest h ps None g.reads (NoRecord-nil h.order h.unit rest (ap length none)) (ap (first_fault h.order h.unit (length ps)) (sym none));
    }

-- what was passed and what waits is what was taken
taken_whole : (start left : Option (List ℕ)) (waiting text : List ℕ) → Consumes start (prepend_known waiting left) text → Consumes start left (text ++ waiting)
taken_whole None left waiting text p = tt
taken_whole (Some s) None waiting text p = absurd p
taken_whole (Some s) (Some l) waiting text p = p ∙ sym (append_assoc text waiting l)

-- a fault, and why
pub gives_fault : {R : Type 0} (left : R → Option (List ℕ)) (start : Option (List ℕ)) (h : Header) (ps : List Packet) (a : Reading R) (source : R) (waiting : List ℕ) (fault : Fault)
    → HasGiven left start h ps a → ((more : List ℕ) × (waiting ≡ a.ahead ++ more) × Consumes (left a.source) (left source) more)
    × (((fault ≡ Device) × NoRecord a.header.order a.header.unit waiting)
    ⊎ ((rest : List ℕ) × IfSome (left source) (λ bytes. bytes ≡ rest) × (first_fault a.header.order a.header.unit a.given (waiting ++ rest) ≡ Some fault)))
    → IsCause start (left source) h ps fault
gives_fault left start h ps a source waiting fault g (grows, why) =
    let header : a.header ≡ h = g.told in
    let passed = passed_more start (left a.source) (left source) a.ahead waiting g.text grows.0 [] g.still_to_pass grows.2 (sym grows.1) in
    let all = rw append-nil at passed in
    elim why [
      | inl broke ↦ inr (inl (
        broke.0,
        record {
          text = g.text ++ waiting;
          rest = waiting;
          taken = taken_whole start (left source) waiting g.text all;
          reads = IsSavefile-front g.text waiting h.order h.unit h.snap ps [] g.reads;
          no_more = subst (λ (x : Header). NoRecord x.order x.unit waiting) header broke.1;
        },
      ))
      | inr stands ↦
          let rest = waiting ++ stands.0 in
          let ends : first_fault h.order h.unit (length ps) rest ≡ Some fault =
          ap (λ (n : ℕ). first_fault h.order h.unit n rest) (sym g.counts) ∙ subst (λ (x : Header). first_fault x.order x.unit a.given rest ≡ Some fault) header stands.2 in
          inl (record {
            text = g.text ++ rest;
            told = whole_text start (left source) waiting g.text stands.0 all stands.1;
            holds = holds_before g.text rest h ps (Some fault) g.reads (NoRecord-fault h.order h.unit (length ps) rest fault ends) (sym ends);
          })
    ]

-- ---- Opening

-- what was read first begins the text that the source had
pub told_whole : (start left : Option (List ℕ)) (bytes rest : List ℕ) → Consumes start left bytes → IfSome left (λ x. x ≡ rest) → IfSome start (λ x. x ≡ bytes ++ rest)
told_whole None left bytes rest p is = tt
told_whole (Some s) None bytes rest p is = absurd p
told_whole (Some s) (Some l) bytes rest p is = p ∙ ap (λ (t : List ℕ). bytes ++ t) is

-- what was read first is the header and what waits
pub passed_first : (start left : Option (List ℕ)) (more text waiting : List ℕ) → Consumes start left more → more ≡ text ++ waiting → Consumes start (prepend_known waiting left) text
passed_first None left more text waiting p e = tt
passed_first (Some s) None more text waiting p e = absurd p
passed_first (Some s) (Some l) more text waiting p e = p ∙ ap (λ (t : List ℕ). t ++ l) e ∙ append_assoc text waiting l

-- ---- What the whole text holds

-- a source's text, if it is known
left_told : (left : Option (List ℕ)) → IfSome left (λ bytes. bytes ≡ unwrap_or left [])
left_told None = tt
left_told (Some bytes) = refl

-- records, and records after them
AreRecords-append : (order : Order) (unit : TimeUnit) (text mid rest : List ℕ) (ps qs : List Packet) → AreRecords order unit text ps mid → AreRecords order unit mid qs rest → AreRecords order unit text (ps ++ qs) rest
AreRecords-append order unit text mid rest [] qs e f = subst (λ (t : List ℕ). AreRecords order unit t qs rest) (sym e) f
AreRecords-append order unit text mid rest (p ∷ ps) qs e f = (e.0, e.1, AreRecords-append order unit e.0 mid rest ps qs e.2 f)

-- what was given so far begins what the text holds
pub begins_all : {R : Type 0} (left : R → Option (List ℕ)) (start : Option (List ℕ)) (h : Header) (ps : List Packet) (r : Reading R)
    → HasGiven left start h ps r → (more : List Packet) × (fault : Option Fault) × WasRead start h (ps ++ more) fault
begins_all left start h ps r g =
    let order = h.order in
    let rest = r.ahead ++ unwrap_or (left r.source) [] in
    let all = all_records order h.unit (length rest) rest (omega arith) in
    let front = IsSavefile-front g.text rest h.order h.unit h.snap ps [] g.reads in
    let records = AreRecords-append order h.unit (drop 24 (g.text ++ rest)) rest all.1 ps all.0 front.records all.2 in (
      all.0,
      first_fault order h.unit (length (ps ++ all.0)) all.1,
      record {
        text = g.text ++ rest;
        told = whole_text start (left r.source) r.ahead g.text (unwrap_or (left r.source) []) g.still_to_pass (left_told (left r.source));
        holds = record {
          rest = all.1;
          reads = record { header = front.header; records = records };
          longest = λ others after o. longest_records order h.unit (drop 24 (g.text ++ rest)) (ps ++ all.0) others all.1 after records all.3 o.records;
          ends = refl;
        };
      },
    )

-- ---- A text in memory

-- what was read of it is what it holds
pub holds_told : (text : List ℕ) (h : Header) (ps : List Packet) (fault : Option Fault) → WasRead (Some text) h ps fault → Holds text h.order h.unit h.snap ps fault
holds_told text h ps fault w = subst (λ (t : List ℕ). Holds t h.order h.unit h.snap ps fault) (sym w.told) w.holds
