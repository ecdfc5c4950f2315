-- One more port is seen as by all.
use Rattle.std.proofs.Common.{[], ◌∷◌, ap, ◌∙◌}
use Rattle.dsde_language.specs.declared.signatures.Port.{Port}
use Rattle.dsde_language.specs.Names.{with_slots}
use Rattle.dsde_language.specs.DeclaredStructures.{directed}
use Rattle.dsde_program_structures.proofs.Loops.{next_port}
use Rattle.dsde_program_structures.proofs.gates.see_ports.Goals as goal

pub loop-port-preserved : goal.loop-port-preserved
loop-port-preserved c =
    next_port c.args.ports.now c.loop-port.port-index c.port-item.result c.loop-port-test.true c.port-item.is c.args.out c.loop-port.found c.see_port.new.found (c.in_ok-see_port.ensures ∙ ap (λ (port : Port). with_slots c.loop-port.found (directed c.args.out (port ∷ []))) c.get.ensures) ∙ c.loop-port.invariant
