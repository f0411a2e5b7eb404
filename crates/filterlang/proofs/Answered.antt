-- What a reading of all the tokens says of the text.
use Rattle.std.proofs.Common.{◌≡◌, ℕ, ◌≤◌, true, List, length, Some, None, Result, Ok, Err, ap, sym, ◌∙◌, ◌⊎◌, inl, inr, ⊎_elim}
use Rattle.std.specs.Prelude.{IfOk, IfErr, IsOkUnless}
use Rattle.filterlang.specs.declared.fault.Fault.{Fault}
use Rattle.filterlang.specs.declared.fault.Fault.TheVariants as faults
use Rattle.filterlang.specs.declared.lexer.TheConstants.{MAX_TEXT}
use Rattle.filterlang.specs.declared.token.Token.{Token}
use Rattle.filter_tree.specs.declared.tree.Expr.{Expr}
use Rattle.filterlang.specs.Tokens.{Lexes}
use Rattle.std.proofs.lemmas.Option.{same_Some}
use Rattle.filterlang.specs.Phrases.{kinds}
use Rattle.filter_tree.specs.Trees.{Tree, tree_of}
use Rattle.filterlang.specs.Readers.{Gives}
use Rattle.filterlang.specs.Reading.{text_at}
use Rattle.filterlang.specs.Texts.{is_misreading, ReadsAs, IsRefusalOf, HasNoTree}
use Rattle.filterlang.proofs.Sound.{text_sound}
use Rattle.filterlang.proofs.Complete.{text_complete}

-- these tokens are the text's, and no others are
abbrev pub IsLexed : List ℕ → List Token → Type 0
IsLexed text tokens = Lexes text 0 tokens × ((others : List Token) → Lexes text 0 others → others ≡ tokens)

-- a tree that reads the text is the one that is read from its tokens
found : (text : List ℕ) (tokens : List Token) (t : Tree) → IsLexed text tokens → ReadsAs text t → text_at (kinds tokens) ≡ Some t
found text tokens t lexed r = ap (λ (ts : List Token). text_at (kinds ts)) (sym (lexed.1 r.0 r.1)) ∙ text_complete (kinds r.0) t r.2

-- what is answered reads the text
pub text_reads : (result : Result Expr Fault) (text : List ℕ) (tokens : List Token) → Gives tree_of result (text_at (kinds tokens)) → IsLexed text tokens → IfOk result (λ e. ReadsAs text (tree_of e))
text_reads (Ok e) text tokens given lexed = (tokens, lexed.0, text_sound (kinds tokens) (tree_of e) given)
text_reads (Err e) text tokens given lexed = tt

-- and nothing else does
pub text_only : (result : Result Expr Fault) (text : List ℕ) (tokens : List Token) → Gives tree_of result (text_at (kinds tokens)) → IsLexed text tokens → IfOk result (λ e. (other : Tree) → ReadsAs text other → other ≡ tree_of e)
text_only (Ok e) text tokens given lexed = λ other r. same_Some other (tree_of e) (sym (found text tokens other lexed r) ∙ given)
text_only (Err e) text tokens given lexed = tt

-- where the reading function finds nothing, no tree reads the text
no_tree : (text : List ℕ) (tokens : List Token) → IsLexed text tokens → text_at (kinds tokens) ≡ None → (t : Tree) → ReadsAs text t → ⊥
no_tree text tokens lexed none t r = let e = found text tokens t lexed r in absurd cc

-- a text that a tree reads is refused only if memory runs out
pub text_accepted : (result : Result Expr Fault) (text : List ℕ) (tokens : List Token) → Gives tree_of result (text_at (kinds tokens)) → IsLexed text tokens → (t : Tree) → ReadsAs text t → IsOkUnless result faults.NoMemory
text_accepted (Ok e) text tokens given lexed t r = tt
text_accepted (Err e) text tokens given lexed t r = ⊎_elim (λ memory. memory) (λ none. absurd (no_tree text tokens lexed none.1 t r)) given

-- a fault that is a misreading says that no tree reads the text, and any other that memory was refused
refused : (e : Fault) (text : List ℕ) → length text ≤ MAX_TEXT → (e ≡ faults.NoMemory) ⊎ ((is_misreading e ≡ true) × HasNoTree text) → IsRefusalOf text e
refused faults.NoMemory text le given = le
refused faults.TextTooLong text le given = absurd (⊎_elim (λ memory. cc) (λ none. let e = none.0 in cc) given)
refused (faults.BadByte p) text le given = absurd (⊎_elim (λ memory. cc) (λ none. let e = none.0 in cc) given)
refused (faults.BadWord p) text le given = absurd (⊎_elim (λ memory. cc) (λ none. let e = none.0 in cc) given)
refused (faults.BadNumber p) text le given = absurd (⊎_elim (λ memory. cc) (λ none. let e = none.0 in cc) given)
refused misreading text le given = ⊎_elim (λ memory. absurd cc) (λ none. none.1) given

-- a refusal is one of the text
pub text_refused : (result : Result Expr Fault) (text : List ℕ) (tokens : List Token) → Gives tree_of result (text_at (kinds tokens)) → IsLexed text tokens → length text ≤ MAX_TEXT → IfErr result (IsRefusalOf text)
text_refused (Ok e) text tokens given lexed le = tt
text_refused (Err e) text tokens given lexed le =
    refused e text le (⊎_elim (λ memory. inl memory) (λ none. inr (none.0, (le, (tokens, lexed.0), no_tree text tokens lexed none.1))) given)
