use Rattle.dsde_routes_wiring.specs.Flatten.{rows, is_to}
use Rattle.std.specs.List.{filter}
use Rattle.dsde_routes_pushing.proofs.Each.{each_pushed}
use Rattle.dsde_routes_pushing.proofs.Whole.{pushed_is_received, are_rows}
use Rattle.dsde_routes_pushing.proofs.pushing.push_equals_gather.Goals as goal

pub returns-clause-pushed : goal.returns-clause-pushed
returns-clause-pushed c = λ traffic wiring own have target port list are. pushed_is_received wiring own target port traffic have list are

pub returns-clause-ordered : goal.returns-clause-ordered
returns-clause-ordered c = λ wiring own target port. (filter (is_to target port) (rows wiring), are_rows wiring own target port)

pub returns-clause-each : goal.returns-clause-each
returns-clause-each c = λ traffic wiring own have. each_pushed traffic wiring own have
