use Rattle.std.proofs.Common.{◌≡◌, ◌≤◌, length, drop, Greater}
use Rattle.std.specs.List.{AllByRecursion}
use Rattle.dsde_values.specs.Path.{name_cmp}
use Rattle.dsde_executive_planner.proofs.few.place_of.Given as goal

abbrev pub invariant-loop-index : goal.invariant-loop-index
invariant-loop-index l =
    (l.index ≤ length l.entries) × AllByRecursion (λ own. name_cmp own.name l.name ≡ Greater) (drop l.index l.entries)

abbrev pub decreases-loop-index : goal.decreases-loop-index
decreases-loop-index l = l.index
