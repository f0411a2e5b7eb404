-- How the fault of an expression without a program reads: as the fault of its text, or of its tree.
use Rattle.std.specs.Prelude.{ℕ, List, Option, None}
use Rattle.filterlang.specs.Faults.{fault_name, fault_place, fault_text}
use Rattle.filtergen_facts.specs.Faults.{refusal_text}
use Rattle.filtergen.specs.declared.expression.ExpressionFault.{ExpressionFault}
use Rattle.filtergen.specs.declared.expression.ExpressionFault.TheVariants.{Text, Tree}

abbrev pub expression_fault_name : ExpressionFault → List ℕ
expression_fault_name (Text fault) = fault_name fault
expression_fault_name (Tree refusal) = refusal_text refusal

-- the byte at which the text is at fault
abbrev pub expression_fault_place : ExpressionFault → Option ℕ
expression_fault_place (Text fault) = fault_place fault
expression_fault_place (Tree refusal) = None

abbrev pub expression_fault_text : ExpressionFault → List ℕ
expression_fault_text (Text fault) = fault_text fault
expression_fault_text (Tree refusal) = refusal_text refusal
