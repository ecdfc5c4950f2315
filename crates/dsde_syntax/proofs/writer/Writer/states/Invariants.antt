-- The tokens of the items so far are written.
use Rattle.std.proofs.Common.{map, take}
use Rattle.dsde_syntax.specs.Writing.{Adds}
use Rattle.dsde_syntax.specs.Grammar.{joined, state_tokens}
use Rattle.dsde_syntax.proofs.writer.Writer.states.Given as goal

abbrev pub invariant-loop-state : goal.invariant-loop-state
invariant-loop-state l = Adds l.initial.self (joined (map state_tokens (take l.state-index l.states))) l.self
