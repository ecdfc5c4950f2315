use Rattle.std.proofs.Common.{rules, ◌∙◌, [], ◌∷◌, ◌++◌, refl}
use Rattle.dsde_parser_grammar.specs.Steps.{function_body, params}
use Rattle.dsde_words.specs.declared.key.Key.TheVariants as key
use Rattle.dsde_syntax.specs.declared.token.Sign.TheVariants as sign
use Rattle.dsde_parser_grammar.specs.Want as want
use Rattle.dsde_parser_expressions.proofs.LedLemmas.{leads-behind}
use Rattle.dsde_parser_expressions.proofs.PartLemmas.{one, own, ◌⨟◌, read}
use Rattle.dsde_parser_declarations.proofs.DeclLemmas.{true-and}
use Rattle.dsde_parser_declarations.proofs.decl.function.Goals as goal

pub returns-in_err-stmts-clause-same : goal.returns-in_err-stmts-clause-same
returns-in_err-stmts-clause-same c =
    leads-behind (want.word key.Fn ∷ want.name ∷ (params ++ want.mark sign.Arrow ∷ want.ty ∷ function_body)) function_body [] c.args.parser.now c.type_name.new.self c.function_body.new.parser _ (λ s. c.in_ok-key.ensures.same _ ∙ (c.in_ok-name.ensures.same _ ∙ (c.in_ok-params.ensures.same _ ∙ (c.in_ok-sign.ensures.same _ ∙ c.in_ok-ty.ensures.same _)))) (search rules)

pub returns-clause-took : goal.returns-clause-took
returns-clause-took c =
    let body = c.in_ok-stmts.ensures.took in
    read (one c.in_ok-key.ensures.took ⨟ own c.in_ok-name.ensures.took ⨟ own c.in_ok-params.ensures.took ⨟ one c.in_ok-sign.ensures.took ⨟ own c.in_ok-ty.ensures.took ⨟ own body) refl refl (true-and _ _ body.good.0 body.good.1)
