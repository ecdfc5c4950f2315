use Rattle.std.proofs.Common.{◌≡◌, drop}
use Rattle.dsde_language.specs.Blocks.{with_states}
use Rattle.dsde_check_scope.proofs.headers.with_states.Given as goal

abbrev pub invariant-loop-state : goal.invariant-loop-state
invariant-loop-state l = with_states l.names (drop l.state-index l.states) ≡ with_states l.fn.names l.states
