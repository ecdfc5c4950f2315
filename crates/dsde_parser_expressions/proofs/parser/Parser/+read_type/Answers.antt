use Rattle.std.proofs.Common.{rules, [], ◌∷◌}
use Rattle.dsde_parser_grammar.specs.Want as want
use Rattle.dsde_parser_expressions.proofs.LedLemmas.{leads-from}
use Rattle.dsde_parser_expressions.proofs.StepLemmas.{type-named}
use Rattle.dsde_parser_expressions.proofs.parser.Parser.+read_type.Goals as goal

pub type_name-returns-in_err-name-clause-same : goal.type_name-returns-in_err-name-clause-same
type_name-returns-in_err-name-clause-same t c =
    leads-from (want.ty ∷ []) (want.name ∷ []) [] c.args.self.now c.name.new.self _ (λ s. type-named s c.args.self.now.0 c.args.self.now.1 (search rules) (search rules) (search rules) (search rules)) (search rules)
