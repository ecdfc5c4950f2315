use Rattle.std.proofs.Common.{◌≡◌, map}
use Rattle.dsde_executive_planner.specs.Entries.{entry_of}
use Rattle.dsde_executive_planner.proofs.entries.listed.Given as goal

abbrev pub invariant-loop-name : goal.invariant-loop-name
invariant-loop-name l = l.entries ≡ map entry_of l.yielded
