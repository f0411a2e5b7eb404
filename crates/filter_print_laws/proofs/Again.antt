-- A canonical text is read as its tree.
use Rattle.std.proofs.Common.{◌≡◌, ℕ, true, List, [], None, refl, sym, subst}
use Rattle.std.proofs.lemmas.List.{append-nil}
use Rattle.filterlang.specs.declared.token.Kind.{Kind}
use Rattle.filterlang.specs.declared.token.Token.{Token}
use Rattle.filterlang.specs.Tokens.{Lexes}
use Rattle.filterlang.specs.Phrases.{kinds}
use Rattle.filter_tree.specs.Trees.{Tree, everything}
use Rattle.filterlang.specs.Grammar.{Reads, reads_nothing, reads_expr}
use Rattle.filterlang.specs.Texts.{ReadsAs}
use Rattle.filter_print.specs.Parentheses.{fits}
use Rattle.filter_print.specs.Canonical.{canonical, tree_text, parentheses_of}
use Rattle.filter_print_laws.proofs.Spelled.{Spelled, spelled_end, lexes_from}
use Rattle.filter_print_laws.proofs.Endings.{ends_end}
use Rattle.filter_print_laws.proofs.Sequences.{Parentheses, tree_tokens}
use Rattle.filter_print_laws.proofs.Terms.{stops_end}
use Rattle.filter_print_laws.proofs.Arithmetic.{Suits}
use Rattle.filter_print_laws.proofs.Expressions.{IsTree, trees_read}
use Rattle.filter_print_laws.proofs.Chosen.{needed, chosen_suits, chosen_fits}
use Rattle.filter_print_laws.proofs.Texts.{tree_spells}
use Rattle.filter_print_laws.proofs.Bounds.{AreTokens, tokens_are}
use Rattle.filter_print_laws.proofs.Levels.{reads_made}
use Rattle.filter_print_laws.specs.Laws.{IsReadAgain, IsReadAsNoOther}

-- what a text is spelled as is read of it
spelled_reads : (text : List ℕ) (ks : List Kind) (t : Tree) → Spelled text ks → Reads ks t → ReadsAs text t
spelled_reads text ks t s r =
    let found = lexes_from {text = text} 0 refl s in
    (found.0, found.1, subst (λ x. Reads x t) (sym found.2) r)

-- with parentheses that suit a tree, it is read again
text_reads : (chosen : Parentheses) (t : Tree) → Suits chosen → IsTree t → fits chosen t 64 ≡ true → ReadsAs (tree_text chosen t) t
text_reads chosen t suits is f =
    let spelled = subst (λ x. Spelled x (tree_tokens chosen t [])) (append-nil (tree_text chosen t)) (tree_spells chosen t is [] [] ends_end spelled_end) in
    spelled_reads (tree_text chosen t) (tree_tokens chosen t []) t spelled (reads_expr ((trees_read chosen suits t is 64 f).0 None [] stops_end).1)

-- so it is with those that are chosen for it
pub canonical_reads : (t : Tree) → IsTree t → fits needed t 64 ≡ true → ReadsAs (canonical t) t
unfolding canonical
canonical_reads t is f = text_reads (parentheses_of t) t (chosen_suits t) is (chosen_fits t f)

-- the empty text
pub empty_reads : ReadsAs (canonical everything) everything
unfolding canonical fits tree_text
empty_reads = spelled_reads [] [] everything spelled_end reads_nothing

-- a tree that some text reads as is what its canonical text reads as
again : (tokens : List Token) (tree : Tree) → AreTokens (kinds tokens) → Reads (kinds tokens) tree → ReadsAs (canonical tree) tree
again tokens tree are reads = by_reading (kinds tokens) tree are reads
  where
    by_reading : (ks : List Kind) (t : Tree) → AreTokens ks → Reads ks t → ReadsAs (canonical t) t
    by_reading ks t is reads_nothing = empty_reads
    by_reading ks t is (reads_expr h) = let made = reads_made h is in canonical_reads t made.0 made.1

-- the law
pub read_again : IsReadAgain
read_again text tree found = again found.0 tree (tokens_are found.1) found.2

-- and no other tree, since a text has one list of tokens, and these are read as one tree
pub read_only : ((text : List ℕ) (xs ys : List Token) → Lexes text 0 xs → Lexes text 0 ys → xs ≡ ys) → ((ks : List Kind) (t u : Tree) → Reads ks t → Reads ks u → t ≡ u) → IsReadAsNoOther
read_only tokens trees text tree other found also =
    let mine = read_again text tree found in
    trees (kinds also.0) other tree also.2 (subst (λ xs. Reads (kinds xs) tree) (tokens (canonical tree) mine.0 also.0 mine.1 also.1) mine.2)
