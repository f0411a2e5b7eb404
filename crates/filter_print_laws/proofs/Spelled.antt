-- Texts that are spelled as tokens, wherever they stand.
use Rattle.std.proofs.Common.{◌≡◌, ℕ, ◌+◌, List, [], ◌∷◌, ◌++◌, drop, refl, sym, ap, ◌∙◌, subst, Ok}
use Rattle.std.proofs.lemmas.List.{drop-drop}
use Rattle.std.proofs.Math.Seq.{drop-append_seam}
use Rattle.std.specs.Prelude.{length}
use Rattle.filterlang.specs.declared.token.Kind.{Kind}
use Rattle.filterlang.specs.declared.token.Token.{Token}
use Rattle.filterlang.specs.Tokens.{front, front_of, placed, Lexes, lexes_end, lexes_blank, lexes_token}
use Rattle.filterlang.specs.Phrases.{kinds}

-- the bytes are these tokens, with spaces between them
pub data Spelled : List ℕ → List Kind → Type 0 where
  spelled_end : Spelled [] []
  spelled_blank : {bytes : List ℕ} {ks : List Kind} → Spelled bytes ks → Spelled (32 ∷ bytes) ks
  spelled_token : {bytes : List ℕ} {k : Kind} {n : ℕ} {ks : List Kind} → front bytes ≡ front_of (Ok (k, n)) → Spelled (drop n bytes) ks → Spelled bytes (k ∷ ks)

-- a token whose bytes are known
pub spelled_first : (word rest : List ℕ) {k : Kind} {ks : List Kind} → front (word ++ rest) ≡ front_of (Ok (k, length word)) → Spelled rest ks → Spelled (word ++ rest) (k ∷ ks)
spelled_first word rest {k} {ks} e s = spelled_token {n = length word} e (subst (λ x. Spelled x ks) (sym (drop-append_seam word rest)) s)

-- what a place of a text is spelled as are its tokens from there on
pub lexes_from : {text bytes : List ℕ} {ks : List Kind} (at : ℕ) → drop at text ≡ bytes → Spelled bytes ks → (tokens : List Token) × Lexes text at tokens × (kinds tokens ≡ ks)
unfolding front
lexes_from at e spelled_end = ([], lexes_end (ap front e), refl)
lexes_from {text} at e (spelled_blank {bytes = bytes} s) =
    let rest = lexes_from (at + 1) (sym (drop-drop 1 at text) ∙ ap (drop 1) e) s in
    (rest.0, lexes_blank (ap front e) rest.1, rest.2)
lexes_from {text} at e (spelled_token {bytes = bytes} {k = k} {n = n} h s) =
    let rest = lexes_from (at + n) (sym (drop-drop n at text) ∙ ap (drop n) e) s in
    (placed at k n ∷ rest.0, lexes_token (ap front e ∙ h) rest.1, ap (λ x. k ∷ x) rest.2)
