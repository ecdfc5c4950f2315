use Rattle.std.proofs.Common.{◌≡◌, drop}
use Rattle.dsde_language.specs.Names.{with_slots}
use Rattle.dsde_language.specs.DeclaredModels.{typed_fields}
use Rattle.dsde_program_slots.proofs.bodies.see_params.Given as goal

abbrev pub invariant-loop-param : goal.invariant-loop-param
invariant-loop-param l =
    with_slots l.scope (typed_fields l.known (drop l.param-index l.params)) ≡ with_slots l.fn.scope (typed_fields l.known l.params)
