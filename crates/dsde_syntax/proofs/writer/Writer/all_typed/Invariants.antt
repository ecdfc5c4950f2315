-- The tokens of the items so far are written.
use Rattle.std.proofs.Common.{◌++◌, map, flat_map, take}
use Rattle.dsde_syntax.specs.Writing.{Adds}
use Rattle.dsde_syntax.specs.Grammar.{mark, typed_tokens}
use Rattle.dsde_syntax.specs.declared.token.Sign.TheVariants as sign
use Rattle.dsde_syntax.proofs.writer.Writer.all_typed.Given as goal

abbrev pub invariant-loop-typed : goal.invariant-loop-typed
invariant-loop-typed l = Adds l.initial.self (flat_map (λ part. mark sign.Comma ++ part) (map typed_tokens (take l.typed-index l.rest))) l.self
