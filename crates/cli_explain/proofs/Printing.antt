-- How the printing of a capture ends.
use Rattle.std.proofs.Common.{◌≡◌, ◌≢◌, ◌↔◌, ℕ, ◌+◌, ◌^◌, ◌<◌, ◌⊎◌, inl, inr, Bool, true, false, List, [], ◌∷◌, ◌++◌, length, Option, Some, None, Result, Ok, Err, IfErr, refl, ap, sym, subst, ◌∙◌, arith}
use Rattle.std.specs.Prelude.{is_err, IsErr, IsOk}
use Rattle.std.proofs.lemmas.Bool.{cases_eq}
use Rattle.std.proofs.KnownBytes.{Appends-trans, Appends-kept}
use Rattle.std.specs.Io.KnownBytes.{Appends, Keeps}
use Rattle.std.specs.List.{AllByRecursion}
use Rattle.savefile.specs.declared.fault.Fault.{Fault}
use Rattle.savefile.specs.declared.fault.Fault.TheVariants.{Device, NoMemory}
use Rattle.savefile.specs.declared.header.Header.{Header}
use Rattle.savefile.specs.declared.packet.Packet.{Packet}
use Rattle.savefile.specs.Reader.{HasGiven, IsCause, Leaves, Lends, Reading, WasBegun, WasRead, WasRefused}
use Rattle.filter_meaning.specs.declared.verdict.Verdict.{Verdict}
use Rattle.line_text.specs.Sending.{Takes, TakesPart}
use Rattle.line_text.proofs.Taking.{TakesPart-more, TakesPart-then}
use Rattle.cli_answers.specs.declared.counts.VerdictCounts.{VerdictCounts}
use Rattle.cli_answers.specs.declared.printing.Unprinted.{Unprinted}
use Rattle.cli_answers.specs.declared.printing.Unprinted.TheVariants as unprinted
use Rattle.cli_answers.specs.declared.filter.AskedFilter.{AskedFilter}
use Rattle.cli_answers.specs.declared.lines.Printed.{Printed}
use Rattle.cli_explain.specs.declared.one.Found.{Found}
use Rattle.cli_answers.specs.declared.form.PacketForm.{PacketForm}
use Rattle.cli_answers.specs.declared.form.PacketForm.TheVariants.{Text, Json}
use Rattle.cli_explain.specs.Printed.{answer_line}
use Rattle.cli_answers.specs.Answers.{Answer, answer}
use Rattle.cli_answers.specs.Counts.{counts_in, AreCounts}
use Rattle.cli_answers.specs.Lines.{PrintsPackets}
use Rattle.cli_answers.specs.Reading.{ReadsTo}
use Rattle.cli_explain.specs.Explained.{counts_line, answer_lines, packets_of, Explains, ExplainsLines, IsLineBroken, IsBegun, IsPrinted, PrintsLine, PrintsAll, PrintsFound, PrintsMore, PrintsWhole, GoesTo, Finds}

-- where the lines broke off, no counts are printed
pub lines-alone : {A : Type 0} (form : PacketForm) (f : AskedFilter) (from left : Option (List ℕ)) (header : Header) (old new : Option (List ℕ)) (c : VerdictCounts) (read : Result A Fault) (done : Result A Unprinted) →
    is_err done ≡ true → PrintsPackets (IsPrinted form f) (IsBegun form f) from left header old new c read done → PrintsAll form f from left header old new c read done
lines-alone form f from left header old new c read (Ok x) failed lines = absurd (cc)
lines-alone form f from left header old new c read (Err u) failed (inl broke) = inl broke
lines-alone form f from left header old new c read (Err u) failed (inr (packets, was, reads, ok)) = absurd (cc)

-- the lines, and then the counts
pub lines-and-counts : {A : Type 0} (form : PacketForm) (f : AskedFilter) (from left : Option (List ℕ)) (header : Header) (old mid new : Option (List ℕ)) (c : VerdictCounts) (read : Result A Fault) (done told : Result A Unprinted) →
    is_err done ≡ false → PrintsPackets (IsPrinted form f) (IsBegun form f) from left header old mid c read done → Takes mid new told (counts_in form c.packets c.yes c.no c.abort) →
    PrintsAll form f from left header old new c read told
lines-and-counts form f from left header old mid new c read (Err u) told went lines taken = absurd (cc)
lines-and-counts form f from left header old mid new c read (Ok x) told went (inl (packets, part, begun, ok, err)) taken = absurd (cc)
lines-and-counts form f from left header old mid new c read (Ok x) (Ok y) went (inr (packets, (answers, same-packets, all, lines, are), reads, ok)) taken =
    let same : counts_in form c.packets c.yes c.no c.abort ≡ counts_line form answers = rw (are.packets, are.yes, are.no, are.abort) refl in
    let more = Appends-trans old mid new (answer_lines form answers) _ lines (subst (Appends mid new) same taken) in
    inr (answers, all, subst (λ ps. ReadsTo from left header ps read) (sym same-packets) reads, (more, are))
lines-and-counts form f from left header old mid new c read (Ok x) (Err u) went (inr (packets, (answers, same-packets, all, lines, are), reads, ok)) taken =
    let same : counts_in form c.packets c.yes c.no c.abort ≡ counts_line form answers = rw (are.packets, are.yes, are.no, are.abort) refl in
    inr (answers, all, subst (λ ps. ReadsTo from left header ps read) (sym same-packets) reads, (mid, lines, subst (TakesPart mid new) same taken))

-- the lines, and then the counts, if all lines were printed
all-of : {A : Type 0} (form : PacketForm) (f : AskedFilter) (from left : Option (List ℕ)) (header : Header) (old mid new : Option (List ℕ)) (c : VerdictCounts) (read : Result A Fault) (done told : Result A Unprinted) →
    PrintsPackets (IsPrinted form f) (IsBegun form f) from left header old mid c read done → (IsErr done → (told ≡ done) × (new ≡ mid)) → (IsOk done → Takes mid new told (counts_in form c.packets c.yes c.no c.abort)) →
    PrintsAll form f from left header old new c read told
all-of form f from left header old mid new c read (Ok x) told lines failed prints = lines-and-counts form f from left header old mid new c read (Ok x) told refl lines (prints refl)
all-of form f from left header old mid new c read (Err u) told lines failed prints =
    let (same, stays) = failed refl in rw (same, stays) (lines-alone form f from left header old mid c read (Err u) refl lines)

-- the same of a capture whose header may not be read
pub each-of : {R : Type 0} (left : R → Option (List ℕ)) (from : R) (form : PacketForm) (f : AskedFilter) (old mid new : Option (List ℕ)) (e : Printed R VerdictCounts) (told : Result (Unit {0}) Unprinted) →
    ExplainsLines left from form f old mid e → (e.opened ≡ false → (told ≡ e.printed) × (new ≡ mid)) → (IsErr e.printed → (told ≡ e.printed) × (new ≡ mid)) →
    (e.opened ≡ true → IsOk e.printed → Takes mid new told (counts_in form e.counts.packets e.counts.yes e.counts.no e.counts.abort)) →
    Explains left from form f old new (record { source = e.source; opened = e.opened; counts = e.counts; read = e.read; printed = told })
each-of left from form f old mid new e told (inl (fault, unread, err, ok, kept, none-counted, closed)) none failed prints =
    let (same, stays) = none closed in
    inl (fault, unread, err, subst IsOk (sym same) ok, subst (Keeps old) (sym stays) kept, subst (λ (k : VerdictCounts). AreCounts k []) (sym none-counted) (record { packets = refl; yes = refl; no = refl; abort = refl; unseen = refl }), closed)
each-of left from form f old mid new e told (inr (opened, header, lines)) none failed prints =
    inr (opened, header, all-of form f (left from) (left e.source) header old mid new e.counts e.read e.printed told lines failed (prints opened))

-- ---- One packet

-- a reader goes on to the next packet, which is the one at the place
pub goes-to : {R : Type 0} (left : R → Option (List ℕ)) (from : Option (List ℕ)) (header : Header) (place : ℕ) (packets : List Packet) (r : Reading R) (result : Result Bool Fault) →
    length packets ≡ place → (result ≡ Ok true → HasGiven left from header (packets ++ r.lent ∷ []) r) →
    (result ≡ Ok false → WasRead from header packets None) → IfErr result (IsCause from (left r.source) header packets) →
    GoesTo left from header place r result
goes-to left from header place packets r (Ok true) here packet end cause = (packets, here, packet refl)
goes-to left from header place packets r (Ok false) here packet end cause = (packets, omega (arith, here), end refl)
goes-to left from header place packets r (Err fault) here packet end cause = (packets, omega (arith, here), cause)

-- what a reader does that went on, it lends
pub lends-it : {R : Type 0} (old new : Reading R) (result : Result Bool Fault) → Leaves old new result → result ≡ Ok true → Lends new
lends-it old new (Ok true) (goes, one, fits) is = (goes, omega (arith, one))
lends-it old new (Ok false) leaves is = absurd (cc)
lends-it old new (Err fault) leaves is = absurd (cc)

-- so one packet is found, or none
pub finds-it : {R : Type 0} (left : R → Option (List ℕ)) (from : R) (form : PacketForm) (f : AskedFilter) (place : ℕ) (old new : Option (List ℕ)) (header : Header) (r : Reading R) (e : Found R) (read : Result Bool Fault) →
    ((packets : List Packet) → HasGiven left (left from) header packets r → WasBegun (left from) header packets) →
    e.source ≡ r.source → e.read ≡ read → GoesTo left (left from) header place r read → PrintsFound form f place r.lent old new read e.printed →
    Finds left from form f place old new e
finds-it left from form f place old new header r e (Ok true) begins same is (before, here, gives) prints =
    inr (inl (header, before, r.lent, begins (before ++ r.lent ∷ []) gives, here, is, prints))
finds-it left from form f place old new header r e (Ok false) begins same is (packets, few, was) (kept, ok) =
    inr (inr (header, packets, few, ok, kept, inl (was, is)))
finds-it left from form f place old new header r e (Err fault) begins same is (packets, few, cause) (kept, ok) =
    inr (inr (header, packets, few, ok, kept, inr (fault, subst (λ s. IsCause (left from) (left s) header packets fault) (sym same) cause, is)))

-- a packet's line, and then more
pub prints-whole : {A : Type 0} (f : AskedFilter) (place : ℕ) (p : Packet) (old mid new : Option (List ℕ)) (v : Verdict) (result : Result A Unprinted) →
    PrintsLine Text f place p old mid v → PrintsMore mid new result → PrintsWhole Text f place p old new result
prints-whole f place p old mid new v (Ok x) (reason, is, line) (text, taken) = (v, reason, is, text, Appends-trans old mid new _ text line taken)
prints-whole f place p old mid new v (Err unprinted.NoMemory) (reason, is, line) kept = inr (v, (reason, is, Appends-kept old mid new _ line kept))
prints-whole f place p old mid new v (Err (unprinted.Output error)) (reason, is, line) (text, part) = (v, reason, is, text, TakesPart-then old mid new _ text line part)

-- or its line broke off
pub broken-line : {A : Type 0} (f : AskedFilter) (place : ℕ) (p : Packet) (old new : Option (List ℕ)) (result : Result A Unprinted) (u : Unprinted) →
    result ≡ Err u → IsLineBroken Text f place p old new u → PrintsWhole Text f place p old new result
broken-line f place p old new result unprinted.NoMemory is kept = rw is (inl kept)
broken-line f place p old new result (unprinted.Output error) is (verdict, reason, answers, part) =
    rw is (verdict, reason, answers, [], TakesPart-more old new (answer_line place (answer p verdict reason)) [] part)
