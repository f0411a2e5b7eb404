-- How the fault of what LISTENERS asks for reads.
use Rattle.std.specs.Prelude.{ℕ, List, codes}
use Rattle.cli_filter.specs.Plan.{plan_fault_text}
use Rattle.cli_filter.specs.declared.plan.PlanFault.{PlanFault}

abbrev pub listeners_fault_text : PlanFault → List ℕ
listeners_fault_text fault = plan_fault_text (codes "Listeners") fault
