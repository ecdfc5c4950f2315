use Rattle.std.proofs.Common.{rules, ◌∙◌, [], ◌∷◌, ◌++◌, refl}
use Rattle.dsde_syntax.specs.declared.token.Sign.TheVariants as sign
use Rattle.dsde_parser_grammar.specs.Want as want
use Rattle.dsde_parser_grammar.specs.Steps.{body, params}
use Rattle.dsde_words.specs.declared.key.Key.TheVariants as key
use Rattle.dsde_parser_expressions.proofs.LedLemmas.{leads-behind}
use Rattle.dsde_parser_expressions.proofs.PartLemmas.{one, one-at, own, ◌⨟◌, read}
use Rattle.dsde_parser_declarations.proofs.decl.atomic.Goals as goal

pub returns-in_err-body-clause-same : goal.returns-in_err-body-clause-same
returns-in_err-body-clause-same c =
    leads-behind (want.word key.Atomic ∷ want.name ∷ (params ++ want.mark sign.OpenBrace ∷ (body ++ want.mark sign.CloseBrace ∷ []))) (body ++ want.mark sign.CloseBrace ∷ []) [] c.args.parser.now c.sign.new.self c.body.new.parser _ (λ s. c.in_ok-at.ensures.same _ ∙ (c.in_ok-name.ensures.same _ ∙ (c.in_ok-params.ensures.same _ ∙ c.in_ok-sign.ensures.same _))) (search rules)

pub returns-in_err-sign-2-clause-same : goal.returns-in_err-sign-2-clause-same
returns-in_err-sign-2-clause-same c =
    leads-behind (want.word key.Atomic ∷ want.name ∷ (params ++ want.mark sign.OpenBrace ∷ (body ++ want.mark sign.CloseBrace ∷ []))) (want.mark sign.CloseBrace ∷ []) [] c.args.parser.now c.body.new.parser c.sign-2.new.self _ (λ s. c.in_ok-at.ensures.same _ ∙ (c.in_ok-name.ensures.same _ ∙ (c.in_ok-params.ensures.same _ ∙ (c.in_ok-sign.ensures.same _ ∙ c.in_ok-body.ensures.same _)))) (search rules)

pub returns-clause-same : goal.returns-clause-same
returns-clause-same c = λ s.
    c.in_ok-at.ensures.same _
    ∙ (c.in_ok-name.ensures.same _
    ∙ (c.in_ok-params.ensures.same _
    ∙ (c.in_ok-sign.ensures.same _ ∙ (c.in_ok-body.ensures.same _ ∙ c.in_ok-sign-2.ensures.same s))))

pub returns-clause-took : goal.returns-clause-took
returns-clause-took c =
    let body = c.in_ok-body.ensures.took in
    rw c.into_inner-body.ensures (read (one-at c.in_ok-at.ensures.took c.in_ok-at.ensures.place ⨟ own c.in_ok-name.ensures.took ⨟ own c.in_ok-params.ensures.took ⨟ (one c.in_ok-sign.ensures.took ⨟ own body ⨟ one c.in_ok-sign-2.ensures.took)) refl refl body.good)
