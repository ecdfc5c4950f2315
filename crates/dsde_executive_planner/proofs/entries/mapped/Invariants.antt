use Rattle.std.proofs.Common.{◌≡◌, ◌++◌, map}
use Rattle.std.specs.BTreeMap.{IsOrdered}
use Rattle.dsde_values.specs.Path.{name_cmp}
use Rattle.dsde_executive_planner.specs.Entries.{entry_of}
use Rattle.dsde_executive_planner.proofs.entries.mapped.Given as goal

abbrev pub invariant-loop-entry : goal.invariant-loop-entry
invariant-loop-entry l =
    (map entry_of l.map.entries ++ l.entry-iterator.rest.items ≡ l.fn.list.items) × IsOrdered name_cmp l.map
