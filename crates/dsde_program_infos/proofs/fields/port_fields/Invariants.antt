use Rattle.std.proofs.Common.{◌≡◌, ◌++◌, drop}
use Rattle.dsde_language.specs.DeclaredModels.{port_fields}
use Rattle.dsde_program_infos.proofs.fields.port_fields.Given as goal

abbrev pub invariant-loop-port : goal.invariant-loop-port
invariant-loop-port l =
    l.found ++ port_fields l.known l.out (drop l.port-index l.ports) ≡ port_fields l.known l.out l.ports
