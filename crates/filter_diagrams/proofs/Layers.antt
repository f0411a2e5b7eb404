-- Layers of values, and relations of them.
use Rattle.std.proofs.Common.{◌≡◌, ℕ, sym, subst}
use Rattle.filter_tree.specs.Trees.{Amount}
use Rattle.filter_tree.specs.declared.tree.Comparison.{Comparison}
use Rattle.filter_meaning.specs.Meaning.{Test, and_test, check_both, compared, in_layers, relation_test, value}
use Rattle.filter_symbols.specs.declared.symbol.Symbols.{Symbols}
use Rattle.filter_symbols.specs.Symbols.{SaysOf, Extends}
use Rattle.filter_diagrams.proofs.Builders.{means-grown}

-- the layers of a value are those of another one
pub layers-as : (b : Symbols) (whole v : Amount) (i : ℕ) → in_layers whole ≡ in_layers v → SaysOf b (in_layers v) i → SaysOf b (in_layers whole) i
layers-as b whole v i is h = subst (λ t. SaysOf b t i) (sym is) h

-- the layers of two parts
pub layers-both : (g h k : Symbols) (whole : Amount) (t u : Test) (x y i : ℕ) → in_layers whole ≡ and_test t u → Extends g h → SaysOf g t x → SaysOf h u y
    → ((t' u' : Test) → SaysOf h t' x → SaysOf h u' y → SaysOf k (and_test t' u') i) → SaysOf k (in_layers whole) i
layers-both g h k whole t u x y i is grew mt mu all = subst (λ s. SaysOf k s i) (sym is) (all t u (means-grown g h t x grew mt) mu)

pub relation-says : (a b c d e : Symbols) (o : Comparison) (v w : Amount) (first second layers test i : ℕ) → Extends a b → Extends c d
    → SaysOf a (in_layers v) first → SaysOf b (in_layers w) second
    → ((t u : Test) → SaysOf b t first → SaysOf b u second → SaysOf c (and_test t u) layers)
    → SaysOf d (λ p. check_both (compared o) (value v p) (value w p)) test
    → ((t u : Test) → SaysOf d t layers → SaysOf d u test → SaysOf e (and_test t u) i)
    → SaysOf e (relation_test o v w) i
relation-says a b c d e o v w first second layers test i grew more h k both said whole =
    let t = and_test (in_layers v) (in_layers w) in
    whole t (λ p. check_both (compared o) (value v p) (value w p))
    (means-grown c d t layers more (both (in_layers v) (in_layers w) (means-grown a b (in_layers v) first grew h) k)) said
