use Rattle.std.proofs.Common.{◌≡◌, take}
use Rattle.dsde_sim_tree.specs.Output.{values_at}
use Rattle.dsde_sim_starting.proofs.ports.values_at.Given as goal

abbrev pub invariant-loop-item : goal.invariant-loop-item
invariant-loop-item l = l.values ≡ values_at (take l.item-index l.items) l.port
