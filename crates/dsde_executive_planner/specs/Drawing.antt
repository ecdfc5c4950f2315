-- What items put into a structure, as code answers it.
use Rattle.std.specs.Prelude.{◌≡◌, List, Result, Ok, Err}
use Rattle.dsde_faults.specs.declared.end.EvalEnd.{EvalEnd}
use Rattle.dsde_faults.specs.declared.end.EvalEnd.TheVariants as end_of
use Rattle.dsde_language.specs.Outcome.{Fault, Outcome}
use Rattle.dsde_language.specs.MeaningTables.{Part, means_in}
use Rattle.dsde_eval_tables.specs.Evaluating.{coded_of}
use Rattle.dsde_executive_planner.specs.declared.planner.Planner.{Planner}

-- The list becomes what is meant, or the answer says why not.
abbrev pub Becomes : {A : Type 0} → Outcome (List A) → Result (Unit {0}) EvalEnd → List A → Type 0
Becomes meant (Ok _) after = meant ≡ Ok after
Becomes meant (Err (end_of.Fault kind at)) after = meant ≡ Err (Fault kind at)
Becomes meant (Err end_of.Memory) after = Unit {0}

-- what an expression comes to in the tables of a planner
abbrev pub part_in : Planner → Part
part_in planner = (means_in (coded_of planner.evaluator) planner.depth).part
