-- The cursors of all listeners, as they are made one by one.
use Rattle.std.proofs.Common.{◌≡◌, List, [], ◌∷◌, ◌++◌, Option, length, map, refl, sym, ap, ◌∙◌, append_assoc, arith}
use Rattle.std.proofs.lemmas.List.{append-nil}
use Rattle.std.specs.Prelude.{Vec}
use Rattle.std.specs.declared.alloc.Global.{Global}
use Rattle.filter_tree.specs.declared.tree.Expr.{Expr}
use Rattle.tap_steps.specs.declared.answer.Answered.{Answered}
use Rattle.tap_steps.specs.declared.filters.Spec.{Spec}
use Rattle.tap_text.specs.Answers.{Cursor, cursor, cursors_of}

abbrev pub lists : List (Vec Answered Global) → List (List Answered)
lists = map (λ (a : Vec Answered Global). a.items)

-- these are made, and those of the rest are all that is left
abbrev pub AreMade : List Cursor → List Cursor → List Spec → List (Option Expr) → List (Vec Answered Global) → Type 0
AreMade whole made specs expressions answers = whole ≡ made ++ cursors_of specs expressions (lists answers)

pub none_made : (specs ss : List Spec) (expressions es : List (Option Expr)) (answers os : List (Vec Answered Global)) (made : List Cursor) →
    ss ≡ specs → es ≡ expressions → os ≡ answers → made ≡ [] → AreMade (cursors_of specs expressions (lists answers)) made ss es os
none_made specs ss expressions es answers os made same alike as_well none = rw (same, alike, as_well, none) refl

pub one_more : (whole made grown : List Cursor) (ss rest : List Spec) (es others : List (Option Expr)) (os later : List (Vec Answered Global))
    (spec : Spec) (expr : Option Expr) (own : Vec Answered Global) (x : Cursor) →
    ss ≡ spec ∷ rest → es ≡ expr ∷ others → os ≡ own ∷ later → x ≡ cursor expr spec.capacity 0 own.items → grown ≡ made ++ x ∷ [] →
    AreMade whole made ss es os → AreMade whole grown rest others later
one_more whole made grown ss rest es others os later spec expr own x first second third is adds before =
    before ∙ rw (first, second, third) (sym (rw (adds, is) (append_assoc made (cursor expr spec.capacity 0 own.items ∷ []) (cursors_of rest others (lists later)))))

all_made : (whole made rest : List Cursor) → rest ≡ [] → whole ≡ made ++ rest → made ≡ whole
all_made whole made rest none before = sym (before ∙ ap (λ (l : List Cursor). made ++ l) none ∙ append-nil made)

no_spec : (ss : List Spec) (es : List (Option Expr)) (os : List (Vec Answered Global)) → length ss ≡ 0 → cursors_of ss es (lists os) ≡ []
no_spec [] es os none = refl
no_spec (s ∷ ss) es os none = absurd (omega (arith, none))

no_expr : (ss : List Spec) (es : List (Option Expr)) (os : List (Vec Answered Global)) → length es ≡ 0 → cursors_of ss es (lists os) ≡ []
no_expr [] es os none = refl
no_expr (s ∷ ss) [] os none = refl
no_expr (s ∷ ss) (e ∷ es) os none = absurd (omega (arith, none))

no_answers : (ss : List Spec) (es : List (Option Expr)) (os : List (Vec Answered Global)) → length os ≡ 0 → cursors_of ss es (lists os) ≡ []
no_answers [] es os none = refl
no_answers (s ∷ ss) [] os none = refl
no_answers (s ∷ ss) (e ∷ es) [] none = refl
no_answers (s ∷ ss) (e ∷ es) (o ∷ os) none = absurd (omega (arith, none))

pub made_specs : (whole made : List Cursor) (ss : List Spec) (es : List (Option Expr)) (os : List (Vec Answered Global)) → length ss ≡ 0 → AreMade whole made ss es os → made ≡ whole
made_specs whole made ss es os none before = all_made whole made _ (no_spec ss es os none) before

pub made_expressions : (whole made : List Cursor) (ss : List Spec) (es : List (Option Expr)) (os : List (Vec Answered Global)) → length es ≡ 0 → AreMade whole made ss es os → made ≡ whole
made_expressions whole made ss es os none before = all_made whole made _ (no_expr ss es os none) before

pub made_answers : (whole made : List Cursor) (ss : List Spec) (es : List (Option Expr)) (os : List (Vec Answered Global)) → length os ≡ 0 → AreMade whole made ss es os → made ≡ whole
made_answers whole made ss es os none before = all_made whole made _ (no_answers ss es os none) before
