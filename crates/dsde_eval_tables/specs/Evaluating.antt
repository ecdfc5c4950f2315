-- The tables that an evaluator reads.
use Rattle.std.specs.Prelude.{◌≡◌, ℕ, List, Option, Result, Ok, Err}
use Rattle.dsde_values.specs.declared.value.Value.{Value}
use Rattle.dsde_language.specs.declared.operator.Builtin.{Builtin}
use Rattle.dsde_language.specs.declared.node_ids.ExprId.{ExprId}
use Rattle.dsde_faults.specs.declared.end.EvalEnd.{EvalEnd}
use Rattle.dsde_faults.specs.declared.end.EvalEnd.TheVariants as end_of
use Rattle.dsde_language.specs.Outcome.{Outcome, Fault, ◌>>=◌}
use Rattle.dsde_language.specs.MeaningOperators.{indexed, of_one}
use Rattle.dsde_language.specs.MeaningTables.{Coded, Part, holds_at, kept_from}
use Rattle.dsde_eval_tables.specs.declared.evaluator.Evaluator.{Evaluator}

-- the tables that an evaluator reads
abbrev pub coded_of : Evaluator → Coded
coded_of evaluator = record {
  nodes = evaluator.tables.now.nodes;
  blocks = evaluator.tables.now.blocks;
  functions = evaluator.functions.now;
}

-- a comprehension's values, with that of one more item, which is the last slot
abbrev pub one_kept : Part → Option ExprId → ExprId → List Value → List Value → Outcome (List Value)
one_kept part cond number done slots = holds_at part cond slots >>= (λ keep. kept_from part number done keep slots)

-- the item of a list at an index
abbrev pub index_at : Part → ℕ → ExprId → ExprId → List Value → Outcome Value
index_at part at list index slots =
    part list slots >>= (λ own. part index slots >>= (λ other. indexed at own other))

-- what a builtin of one argument makes of it
abbrev pub made_of_one : Part → Builtin → ExprId → List Value → Outcome Value
made_of_one part which one slots = part one slots >>= (λ own. of_one which own)

-- The list is then what is meant, or the answer says why not.
abbrev pub Adds : Outcome (List Value) → Result (Unit {0}) EvalEnd → List Value → Type 0
Adds meant (Ok _) done = meant ≡ Ok done
Adds meant (Err (end_of.Fault kind at)) done = meant ≡ Err (Fault kind at)
Adds meant (Err end_of.Memory) done = Unit {0}
