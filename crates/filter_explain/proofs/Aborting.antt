-- What aborts has a cause.
use Rattle.std.proofs.Common.{◌≡◌, Bool, true, false, Ok, Err, refl, ◌∙◌}
use Rattle.std.specs.Prelude.{Result, IsSome}
use Rattle.filter_meaning.specs.declared.verdict.Verdict.TheVariants.{Abort}
use Rattle.filter_meaning.specs.declared.cause.AbortCause.{AbortCause}
use Rattle.filter_meaning.specs.Meaning.{decided}
use Rattle.filter_meaning.specs.Looks.{primitive_asked, relation_asked, verdict_of, cause_in}
use Rattle.filter_meaning.proofs.GoodPrimitives.{primitives_meant}
use Rattle.filter_meaning.proofs.GoodValues.{relations_meant}
use Rattle.filter_explain.specs.Laws.{PrimitivesHaveCauses, RelationsHaveCauses}

has_cause : (answer : Result Bool AbortCause) → verdict_of answer ≡ Abort → IsSome (cause_in answer)
has_cause (Ok true) abort = absurd cc
has_cause (Ok false) abort = absurd cc
has_cause (Err cause) abort = refl

pub primitives-have-causes : PrimitivesHaveCauses
primitives-have-causes q p abort = has_cause (primitive_asked q p).answer (primitives_meant q p ∙ abort)

pub relations-have-causes : RelationsHaveCauses
relations-have-causes c v w p abort = has_cause (relation_asked c v w p).answer (relations_meant c v w p ∙ abort)
