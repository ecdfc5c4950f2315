use Rattle.std.proofs.Common.{◌≡◌, drop, length, take}
use Rattle.dsde_language.specs.Blocks.{inputs_seen}
use Rattle.dsde_check_bodies.proofs.phases.inputs_seen.Given as goal

abbrev pub invariant-loop-port : goal.invariant-loop-port
invariant-loop-port l =
    (inputs_seen l.scope (drop l.port-index l.ports) ≡ inputs_seen l.fn.scope l.ports)
    × (take (length l.fn.scope) l.scope ≡ l.fn.scope)
