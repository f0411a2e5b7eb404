-- What filters say of packets, and what is decided of two of them.
use Rattle.std.specs.Prelude.{Bool}
use Rattle.filter_tree.specs.Trees.{tree_of}
use Rattle.filter_meaning.specs.Meaning.{Packet, Test, accepts, meaning}
use Rattle.filter_same.specs.declared.filters.Filter.{Filter}
use Rattle.filter_same.specs.declared.filters.Filter.TheVariants.{Expression, Program}
use Rattle.filter_same.specs.declared.sameness.Sameness.{Sameness}
use Rattle.filter_diagrams.specs.Programs.{keeps, program_test}
use Rattle.filter_same.specs.Same.{HoldsOf}

-- what a filter says of a packet
abbrev pub filter_test : Filter → Test
filter_test (Expression expr) = meaning (tree_of expr.now)
filter_test (Program program) = program_test program.now

-- a filter accepts a packet
abbrev pub filter_accepts : Filter → Packet → Bool
filter_accepts (Expression expr) = accepts (tree_of expr.now)
filter_accepts (Program program) = keeps program.now

-- what an answer says of two filters
abbrev pub HoldsOfFilters : Filter → Filter → Sameness → Type 0
HoldsOfFilters f g s = HoldsOf (filter_accepts f) (filter_accepts g) (filter_test f) (filter_test g) s
