use Rattle.std.proofs.Common.{◌≡◌, drop}
use Rattle.dsde_language.specs.Blocks.{params_all}
use Rattle.dsde_check_scope.proofs.headers.add_params.Given as goal

abbrev pub invariant-loop-typed : goal.invariant-loop-typed
invariant-loop-typed l = params_all l.known l.scope (drop l.typed-index l.params) ≡ params_all l.known l.fn.scope l.params
