use Rattle.std.proofs.Common.{rules, [], ◌∷◌}
use Rattle.dsde_syntax.specs.declared.token.Sign.TheVariants as sign
use Rattle.dsde_parser_grammar.specs.Want as want
use Rattle.dsde_parser_expressions.proofs.LedLemmas.{leads-from}
use Rattle.dsde_parser_expressions.proofs.StepLemmas.{end-kid}
use Rattle.dsde_parser_statements.proofs.item.end_part.Goals as goal

pub returns-in_err-name-clause-same : goal.returns-in_err-name-clause-same
returns-in_err-name-clause-same c =
    leads-from (want.end ∷ []) (want.name ∷ want.index ∷ want.mark sign.Dot ∷ want.name ∷ []) (want.mark sign.Dot ∷ want.name ∷ []) c.args.parser.now c.component.new.parser _ (λ s. end-kid s c.args.parser.now.0 c.args.parser.now.1 (search rules) (search rules)) (search rules)
