-- Records that a reader gives one after the other, and their spans in the front of a memory.
use Rattle.std.proofs.Common.{◌≡◌, ◌≢◌, ◌+◌, ◌<◌, inl, inr, ℕ, List, [], ◌∷◌, ◌++◌, length, map, drop, slice_set, refl, ap, subst, arith}
use Rattle.bpftap_c.specs.declared.batches.BpftapSpan.{BpftapSpan}
use Rattle.bpftap_c.specs.declared.captures.BpftapReader.{BpftapReader}
use Rattle.bpftap_c.specs.declared.captures.BpftapRecord.{BpftapRecord}
use Rattle.bpftap_c.specs.Captures.{GivesNext}
use Rattle.bpftap_c.specs.Spans.{span_of, GivesAll}

-- a further record is the last one
pub further : (memory : List ℕ) (given : List BpftapRecord) (old middle new : BpftapReader) (last : BpftapRecord)
    → GivesAll memory given old middle → last.fault ≡ 0 → GivesNext memory middle new last → GivesAll memory (given ++ last ∷ []) old new
further memory [] old middle new last same fine gives = (fine, (new, subst (λ (r : BpftapReader). GivesNext memory r new last) same gives, refl))
further memory (first ∷ later) old middle new last (ok, (next, gave, rest)) fine gives =
    (ok, (next, gave, further memory later next middle new last rest fine gives))

pub lengthened : (given : List BpftapRecord) (last : BpftapRecord) → length (given ++ last ∷ []) ≡ length given + 1
lengthened [] last = refl
lengthened (first ∷ later) last = let shorter = lengthened later last in omega (arith, shorter)

-- its span is put after those of the others
pub spanned : (given : List BpftapRecord) (before : List BpftapSpan) (last : BpftapRecord) → length given < length before
    → slice_set (map span_of given ++ drop (length given) before) (length given) (span_of last)
    ≡ map span_of (given ++ last ∷ []) ++ drop (length (given ++ last ∷ [])) before
spanned [] [] last short = absurd (omega (arith, short))
spanned [] (other ∷ before) last short = refl
spanned (first ∷ later) [] last short = absurd (omega (arith, short))
spanned (first ∷ later) (other ∷ before) last short = ap (λ rest. span_of first ∷ rest) (spanned later before last (omega (arith, short)))

-- what is no record leaves the reader where it was
pub stays : (memory : List ℕ) (old new : BpftapReader) (last : BpftapRecord) → GivesNext memory old new last → last.fault ≢ 0 → new ≡ old
stays memory old new last (inl (ok, inl (packet, is, found, moved))) differ = absurd (differ (ap (λ (r : BpftapRecord). r.fault) found))
stays memory old new last (inl (ok, inr (inl (none, found, same)))) differ = same
stays memory old new last (inl (ok, inr (inr (inl (fault, first, found, same))))) differ = same
stays memory old new last (inl (ok, inr (inr (inr (full, found, same))))) differ = same
stays memory old new last (inr (refused, found, same)) differ = same
