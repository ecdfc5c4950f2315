use Rattle.std.proofs.Common.{◌≡◌}
use Rattle.dsde_sim_tree.specs.Output.{by_port}
use Rattle.dsde_sim_starting.proofs.ports.from_first.Given as goal

abbrev pub invariant-loop-port : goal.invariant-loop-port
invariant-loop-port l = l.got ≡ by_port l.port l.items
