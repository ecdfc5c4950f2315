use Rattle.std.proofs.Common.{◌≡◌, drop}
use Rattle.dsde_language.specs.Blocks.{with_params}
use Rattle.dsde_check_scope.proofs.headers.with_params.Given as goal

abbrev pub invariant-loop-param : goal.invariant-loop-param
invariant-loop-param l = with_params l.names (drop l.param-index l.params) ≡ with_params l.fn.names l.params
