-- The tokens of the items so far are written.
use Rattle.std.proofs.Common.{◌++◌, map, flat_map, take}
use Rattle.dsde_syntax.specs.Writing.{Adds}
use Rattle.dsde_syntax.specs.Grammar.{mark, id_tokens}
use Rattle.dsde_syntax.specs.declared.token.Sign.TheVariants as sign
use Rattle.dsde_syntax.proofs.writer.Writer.ids.Given as goal

abbrev pub invariant-loop-id : goal.invariant-loop-id
invariant-loop-id l = Adds l.initial.self (flat_map (λ part. mark sign.Comma ++ part) (map id_tokens (take l.id-index l.rest))) l.self
