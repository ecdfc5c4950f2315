use Rattle.std.proofs.Common.{◌-◌, length}
use Rattle.dsde_lexer.proofs.TokensLemmas.{HasCut}
use Rattle.dsde_lexer.proofs.lexer.lex.Given as goal

abbrev pub invariant-loop-at : goal.invariant-loop-at
invariant-loop-at l = HasCut l.bytes l.at l.tokens

abbrev pub decreases-loop-at : goal.decreases-loop-at
decreases-loop-at l = length l.bytes - l.at
