-- Lines that are printed, one after the other.
use Rattle.std.proofs.Common.{◌≡◌, ℕ, ◌+◌, ◌<◌, List, [], ◌∷◌, ◌++◌, length, take, get_or, Option, refl, sym, ap, subst, ◌∙◌, append_assoc, append-nil}
use Rattle.std.proofs.lemmas.List.{take_more}
use Rattle.std.proofs.KnownBytes.{Appends-nil, Appends-trans}
use Rattle.std.specs.Io.KnownBytes.{Appends}
use Rattle.line_text.specs.declared.form.LineForm.{LineForm}
use Rattle.pcap_parts.specs.declared.again.Stretch.{Stretch}
use Rattle.cli_parts.specs.Lines.{range_line}
use Rattle.cli_parts.specs.Ranges.{last_end, lines_between, stretch_lines, ArePrinted}

lines_more : (form : LineForm) (first : ℕ) (ends : List ℕ) (end : ℕ)
    → lines_between form first (ends ++ end ∷ []) ≡ lines_between form first ends ++ range_line form (last_end first ends) end
lines_more form first [] end = append-nil (range_line form first end)
lines_more form first (e ∷ ends) end =
    ap (λ (t : List ℕ). range_line form first e ++ t) (lines_more form e ends end)
    ∙ sym (append_assoc (range_line form first e) (lines_between form e ends) (range_line form (last_end e ends) end))

last_more : (first : ℕ) (ends : List ℕ) (end : ℕ) → last_end first (ends ++ end ∷ []) ≡ end
last_more first [] end = refl
last_more first (e ∷ ends) end = last_more e ends end

pub none_printed : (o : Option (List ℕ)) (form : LineForm) → ArePrinted o o form 24
none_printed o form = record { ends = []; last = refl; took = Appends-nil o }

pub one_more : (a b c : Option (List ℕ)) (form : LineForm) (first end : ℕ) → ArePrinted a b form first → Appends b c (range_line form first end)
    → ArePrinted a c form end
one_more a b c form first end so_far next =
    let line = subst (λ n. Appends b c (range_line form n end)) (sym so_far.last) next in
    record {
      ends = so_far.ends ++ end ∷ [];
      last = last_more 24 so_far.ends end;
      took = subst (Appends a c) (sym (lines_more form 24 so_far.ends end))
          (Appends-trans a b c (lines_between form 24 so_far.ends) (range_line form (last_end 24 so_far.ends) end) so_far.took line);
    }

stretches_more : (form : LineForm) (ss : List Stretch) (s : Stretch) → stretch_lines form (ss ++ s ∷ []) ≡ stretch_lines form ss ++ range_line form s.first s.end
stretches_more form [] s = append-nil (range_line form s.first s.end)
stretches_more form (t ∷ ss) s =
    ap (λ (l : List ℕ). range_line form t.first t.end ++ l) (stretches_more form ss s)
    ∙ sym (append_assoc (range_line form t.first t.end) (stretch_lines form ss) (range_line form s.first s.end))

pub next_stretch : (a b c : Option (List ℕ)) (form : LineForm) (again : List Stretch) (i : ℕ) (d : Stretch) → i < length again
    → Appends a b (stretch_lines form (take i again)) → Appends b c (range_line form (get_or again i d).first (get_or again i d).end)
    → Appends a c (stretch_lines form (take (i + 1) again))
next_stretch a b c form again i d lt so_far next =
    let s = get_or again i d in
    subst (λ (ss : List Stretch). Appends a c (stretch_lines form ss)) (sym (take_more again i d lt))
    (subst (Appends a c) (sym (stretches_more form (take i again) s))
    (Appends-trans a b c (stretch_lines form (take i again)) (range_line form s.first s.end) so_far next))

pub no_stretch : (o : Option (List ℕ)) (form : LineForm) → Appends o o (stretch_lines form [])
no_stretch o form = Appends-nil o
