use Rattle.std.proofs.Common.{◌≡◌, [], drop}
use Rattle.dsde_language.specs.MeaningTables.{values_from}
use Rattle.dsde_executive_planner.specs.Drawing.{part_in}
use Rattle.dsde_executive_planner.proofs.planner.Planner.values.Given as goal

abbrev pub invariant-loop-number : goal.invariant-loop-number
invariant-loop-number l =
    (values_from (part_in l.self) l.done (drop l.number-index l.numbers) l.slots ≡ values_from (part_in l.self) [] l.numbers l.slots)
    × (l.slots ≡ l.fn.slots)
