use Rattle.std.proofs.Common.{◌≡◌, ◌++◌, take}
use Rattle.dsde_check_bodies.specs.Parts.{types_of}
use Rattle.dsde_check_bodies.proofs.headers.add_types.Given as goal

abbrev pub invariant-loop-bound : goal.invariant-loop-bound
invariant-loop-bound l = l.types ≡ l.fn.types ++ types_of (take l.bound-index l.scope)
