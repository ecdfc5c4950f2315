-- What is written so far, followed by the texts of the rest, stays the same.
use Rattle.std.proofs.Common.{◌≡◌, ◌++◌, flat_map, drop}
use Rattle.std.specs.Prelude.{codes}
use Rattle.dsde_syntax.specs.Print.{tok_text}
use Rattle.dsde_syntax.proofs.print.write_tokens.Given as goal

abbrev pub invariant-loop-token : goal.invariant-loop-token
invariant-loop-token l =
    l.text ++ flat_map (λ token. codes " " ++ tok_text token) (drop l.token-index l.rest)
    ≡ l.initial.text ++ flat_map (λ token. codes " " ++ tok_text token) l.rest
