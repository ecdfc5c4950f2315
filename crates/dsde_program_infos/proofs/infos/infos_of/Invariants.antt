use Rattle.std.proofs.Common.{◌≡◌, [], drop}
use Rattle.dsde_language.specs.NodeModels.{infos_from}
use Rattle.dsde_program_infos.proofs.infos.infos_of.Given as goal

abbrev pub invariant-loop-decl : goal.invariant-loop-decl
invariant-loop-decl l = infos_from l.known l.infos (drop l.decl-index l.decls) ≡ infos_from l.known [] l.decls
