use Rattle.std.proofs.Common.{List, ℕ, ◌∷◌, ◌∙◌, ap, codes, sym, subst}
use Rattle.std.specs.Str.{IsUtf8}
use Rattle.cli_parts.proofs.Reading.{at_word, behind_range, behind_read, behind_sent, behind_size, behind_written, leaves, part_text-same, with_word}
use Rattle.cli_parts.proofs.fields.part_in.Goals as goal

pub returns-in_err-range-clause-whole : goal.returns-in_err-range-clause-whole
returns-in_err-range-clause-whole c = λ part said is.
    let l = leaves part c.args.line.now is in
    absurd (c.in_err-range.ensures.whole part.first part.end (behind_range part) said.ordered said.end l.line)

pub returns-in_err-size-clause-whole : goal.returns-in_err-size-clause-whole
returns-in_err-size-clause-whole c = λ part said is.
    let l = leaves part c.args.line.now is in
    let a = c.in_ok-range.ensures.whole part.first part.end (behind_range part) said.ordered said.end l.line in
    absurd (c.in_err-size.ensures.whole part.size (behind_size part) said.size (with_word (codes "of") _ c.as_slice.ensures l.of) (at_word (codes "of") _ _ _ c.as_slice.ensures (a.2 ∙ l.size)))

pub returns-in_err-read-clause-whole : goal.returns-in_err-read-clause-whole
returns-in_err-read-clause-whole c = λ part said is.
    let l = leaves part c.args.line.now is in
    let a = c.in_ok-range.ensures.whole part.first part.end (behind_range part) said.ordered said.end l.line in
    let b = c.in_ok-size.ensures.whole part.size (behind_size part) said.size (with_word (codes "of") _ c.as_slice.ensures l.of) (at_word (codes "of") _ _ _ c.as_slice.ensures (a.2 ∙ l.size)) in
    absurd (c.in_err-read.ensures.whole part.tally.read (behind_read part) said.read (with_word (codes "packets") _ c.as_slice-2.ensures l.packets) (at_word (codes "packets") _ _ _ c.as_slice-2.ensures (b.1 ∙ l.read)))

pub returns-in_err-written-clause-whole : goal.returns-in_err-written-clause-whole
returns-in_err-written-clause-whole c = λ part said is.
    let l = leaves part c.args.line.now is in
    let a = c.in_ok-range.ensures.whole part.first part.end (behind_range part) said.ordered said.end l.line in
    let b = c.in_ok-size.ensures.whole part.size (behind_size part) said.size (with_word (codes "of") _ c.as_slice.ensures l.of) (at_word (codes "of") _ _ _ c.as_slice.ensures (a.2 ∙ l.size)) in
    let d = c.in_ok-read.ensures.whole part.tally.read (behind_read part) said.read (with_word (codes "packets") _ c.as_slice-2.ensures l.packets) (at_word (codes "packets") _ _ _ c.as_slice-2.ensures (b.1 ∙ l.read)) in
    absurd (c.in_err-written.ensures.whole part.tally.written (behind_written part) said.written (with_word (codes "kept") _ c.as_slice-3.ensures l.kept) (at_word (codes "kept") _ _ _ c.as_slice-3.ensures (d.1 ∙ l.written)))

pub returns-in_err-sent-clause-whole : goal.returns-in_err-sent-clause-whole
returns-in_err-sent-clause-whole c = λ part said is.
    let l = leaves part c.args.line.now is in
    let a = c.in_ok-range.ensures.whole part.first part.end (behind_range part) said.ordered said.end l.line in
    let b = c.in_ok-size.ensures.whole part.size (behind_size part) said.size (with_word (codes "of") _ c.as_slice.ensures l.of) (at_word (codes "of") _ _ _ c.as_slice.ensures (a.2 ∙ l.size)) in
    let d = c.in_ok-read.ensures.whole part.tally.read (behind_read part) said.read (with_word (codes "packets") _ c.as_slice-2.ensures l.packets) (at_word (codes "packets") _ _ _ c.as_slice-2.ensures (b.1 ∙ l.read)) in
    let e = c.in_ok-written.ensures.whole part.tally.written (behind_written part) said.written (with_word (codes "kept") _ c.as_slice-3.ensures l.kept) (at_word (codes "kept") _ _ _ c.as_slice-3.ensures (d.1 ∙ l.written)) in
    absurd (c.in_err-sent.ensures.whole part.sent (behind_sent part.fault part.file.now) said.sent (with_word (codes "bytes") _ c.as_slice-4.ensures l.bytes) (at_word (codes "bytes") _ _ _ c.as_slice-4.ensures (e.1 ∙ l.sent)))

pub returns-in_err-fault-clause-whole : goal.returns-in_err-fault-clause-whole
returns-in_err-fault-clause-whole c = λ part said is.
    let l = leaves part c.args.line.now is in
    let a = c.in_ok-range.ensures.whole part.first part.end (behind_range part) said.ordered said.end l.line in
    let b = c.in_ok-size.ensures.whole part.size (behind_size part) said.size (with_word (codes "of") _ c.as_slice.ensures l.of) (at_word (codes "of") _ _ _ c.as_slice.ensures (a.2 ∙ l.size)) in
    let d = c.in_ok-read.ensures.whole part.tally.read (behind_read part) said.read (with_word (codes "packets") _ c.as_slice-2.ensures l.packets) (at_word (codes "packets") _ _ _ c.as_slice-2.ensures (b.1 ∙ l.read)) in
    let e = c.in_ok-written.ensures.whole part.tally.written (behind_written part) said.written (with_word (codes "kept") _ c.as_slice-3.ensures l.kept) (at_word (codes "kept") _ _ _ c.as_slice-3.ensures (d.1 ∙ l.written)) in
    let f = c.in_ok-sent.ensures.whole part.sent (behind_sent part.fault part.file.now) said.sent (with_word (codes "bytes") _ c.as_slice-4.ensures l.bytes) (at_word (codes "bytes") _ _ _ c.as_slice-4.ensures (e.1 ∙ l.sent)) in
    absurd (c.in_err-fault.ensures.whole part.fault part.file.now said.fault (ap (λ (t : List ℕ). 32 ∷ t) f.1 ∙ l.end))

pub returns-in_default-clause-whole : goal.returns-in_default-clause-whole
returns-in_default-clause-whole c = λ part said is.
    let l = leaves part c.args.line.now is in
    let a = c.in_ok-range.ensures.whole part.first part.end (behind_range part) said.ordered said.end l.line in
    let b = c.in_ok-size.ensures.whole part.size (behind_size part) said.size (with_word (codes "of") _ c.as_slice.ensures l.of) (at_word (codes "of") _ _ _ c.as_slice.ensures (a.2 ∙ l.size)) in
    let d = c.in_ok-read.ensures.whole part.tally.read (behind_read part) said.read (with_word (codes "packets") _ c.as_slice-2.ensures l.packets) (at_word (codes "packets") _ _ _ c.as_slice-2.ensures (b.1 ∙ l.read)) in
    let e = c.in_ok-written.ensures.whole part.tally.written (behind_written part) said.written (with_word (codes "kept") _ c.as_slice-3.ensures l.kept) (at_word (codes "kept") _ _ _ c.as_slice-3.ensures (d.1 ∙ l.written)) in
    let f = c.in_ok-sent.ensures.whole part.sent (behind_sent part.fault part.file.now) said.sent (with_word (codes "bytes") _ c.as_slice-4.ensures l.bytes) (at_word (codes "bytes") _ _ _ c.as_slice-4.ensures (e.1 ∙ l.sent)) in
    let g = c.in_ok-fault.ensures.whole part.fault part.file.now said.fault (ap (λ (t : List ℕ). 32 ∷ t) f.1 ∙ l.end) in
    absurd (c.in_default.ensures.cases.0 (subst IsUtf8 (sym g.1) said.file))

pub returns-clause-whole : goal.returns-clause-whole
returns-clause-whole c = λ part said is.
    let l = leaves part c.args.line.now is in
    let a = c.in_ok-range.ensures.whole part.first part.end (behind_range part) said.ordered said.end l.line in
    let b = c.in_ok-size.ensures.whole part.size (behind_size part) said.size (with_word (codes "of") _ c.as_slice.ensures l.of) (at_word (codes "of") _ _ _ c.as_slice.ensures (a.2 ∙ l.size)) in
    let d = c.in_ok-read.ensures.whole part.tally.read (behind_read part) said.read (with_word (codes "packets") _ c.as_slice-2.ensures l.packets) (at_word (codes "packets") _ _ _ c.as_slice-2.ensures (b.1 ∙ l.read)) in
    let e = c.in_ok-written.ensures.whole part.tally.written (behind_written part) said.written (with_word (codes "kept") _ c.as_slice-3.ensures l.kept) (at_word (codes "kept") _ _ _ c.as_slice-3.ensures (d.1 ∙ l.written)) in
    let f = c.in_ok-sent.ensures.whole part.sent (behind_sent part.fault part.file.now) said.sent (with_word (codes "bytes") _ c.as_slice-4.ensures l.bytes) (at_word (codes "bytes") _ _ _ c.as_slice-4.ensures (e.1 ∙ l.sent)) in
    let g = c.in_ok-fault.ensures.whole part.fault part.file.now said.fault (ap (λ (t : List ℕ). 32 ∷ t) f.1 ∙ l.end) in
    is ∙ sym (part_text-same _ part a.0 a.1 b.0 d.0 e.0 f.0 g.0 (c.in-Ok.ensures.cases.0 ∙ g.1))
