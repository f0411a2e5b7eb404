-- Stretches that are cut again, with one more.
use Rattle.std.proofs.Common.{◌≡◌, ℕ, ◌<◌, ◌≤◌, List, [], ◌∷◌, ◌++◌, ap, refl, arith}
use Rattle.std.specs.List.{Contains}
use Rattle.std.proofs.lemmas.List.Elements.{All-nil, All-push}
use Rattle.pcap_parts.specs.declared.again.Stretch.{Stretch}
use Rattle.pcap_parts.specs.declared.part.PartCut.{PartCut}
use Rattle.pcap_parts.specs.Again.{AreAgainUpTo, Follow, IsCutOff, Replaces}

follow_more : (at : ℕ) (ss : List Stretch) (to : ℕ) (s : Stretch) → Follow at ss to → to ≤ s.first → Follow at (ss ++ s ∷ []) s.end
follow_more at [] to s follow later = (omega (arith, follow, later), omega arith)
follow_more at (t ∷ ss) to s follow later = (follow.0, follow_more t.end ss to s follow.1 later)

follow_later : (at : ℕ) (ss : List Stretch) (to later : ℕ) → Follow at ss to → to ≤ later → Follow at ss later
follow_later at [] to later follow is = omega (arith, follow, is)
follow_later at (t ∷ ss) to later follow is = (follow.0, follow_later t.end ss to later follow.1 is)

-- a stretch does not end after the capture
abbrev pub EndsInside : ℕ → Stretch → Type 0
EndsInside size s = s.end ≤ size

pub again_first : (parts : List PartCut) (cut_off s : Stretch) (size : ℕ) → s.first ≡ cut_off.first → (cut_off.end < size → cut_off.end < s.end)
    → s.end ≤ size → AreAgainUpTo parts cut_off size (s ∷ []) s.end
again_first parts cut_off s size first longer inside = record {
  head = s;
  others = [];
  are = refl;
  first = first;
  longer = longer;
  replace = All-nil (Replaces parts size);
  inside = All-push (EndsInside size) [] s (All-nil (EndsInside size)) inside;
  follow = (omega (arith, first), omega arith);
}

pub again_more : (parts : List PartCut) (cut_off s : Stretch) (size : ℕ) (again : List Stretch) (next : ℕ) (p : PartCut)
    → AreAgainUpTo parts cut_off size again next → Contains parts p → IsCutOff size p → p.first ≡ next → s.first ≡ p.first → p.end < s.end
    → s.end ≤ size → AreAgainUpTo parts cut_off size (again ++ s ∷ []) s.end
again_more parts cut_off s size again next p so_far given is begins first longer inside = record {
  head = so_far.head;
  others = so_far.others ++ s ∷ [];
  are = ap (λ (l : List Stretch). l ++ s ∷ []) so_far.are;
  first = so_far.first;
  longer = so_far.longer;
  replace = All-push (Replaces parts size) so_far.others s so_far.replace (p, given, is, first, longer);
  inside = All-push (EndsInside size) again s so_far.inside inside;
  follow = follow_more cut_off.first again next s so_far.follow (omega (arith, begins, first));
}

pub again_later : (parts : List PartCut) (cut_off : Stretch) (size : ℕ) (again : List Stretch) (next later : ℕ)
    → AreAgainUpTo parts cut_off size again next → next ≤ later → AreAgainUpTo parts cut_off size again later
again_later parts cut_off size again next later so_far is = record {
  head = so_far.head;
  others = so_far.others;
  are = so_far.are;
  first = so_far.first;
  longer = so_far.longer;
  replace = so_far.replace;
  inside = so_far.inside;
  follow = follow_later cut_off.first again next later so_far.follow is;
}
