use Rattle.std.proofs.Common.{◌≡◌, ◌++◌, drop}
use Rattle.dsde_language.specs.DeclaredModels.{typed_fields}
use Rattle.dsde_program_infos.proofs.fields.typed_fields.Given as goal

abbrev pub invariant-loop-param : goal.invariant-loop-param
invariant-loop-param l = l.found ++ typed_fields l.known (drop l.param-index l.params) ≡ typed_fields l.known l.params
