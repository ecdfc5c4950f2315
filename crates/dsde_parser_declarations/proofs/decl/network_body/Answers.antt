use Rattle.std.proofs.Common.{rules, ◌∙◌, [], ◌∷◌, ◌++◌, refl}
use Rattle.dsde_syntax.specs.declared.token.Sign.TheVariants as sign
use Rattle.dsde_parser_grammar.specs.Want as want
use Rattle.dsde_parser_grammar.specs.Steps.{network_body, executive}
use Rattle.dsde_parser_expressions.proofs.LedLemmas.{leads-behind, refuses}
use Rattle.dsde_parser_expressions.proofs.PartLemmas.{one, own, all, ◌⨟◌, read}
use Rattle.dsde_parser_declarations.proofs.decl.network_body.Goals as goal

pub returns-in_err-exec-clause-same : goal.returns-in_err-exec-clause-same
returns-in_err-exec-clause-same c =
    leads-behind network_body (executive ++ want.mark sign.CloseBrace ∷ []) [] c.args.parser.now c.ports.new.parser c.executive.new.parser _ (λ s. c.in_ok-sign.ensures.same _ ∙ c.in_ok-ports.ensures.same _) (refuses (executive ++ want.mark sign.CloseBrace ∷ []) [] c.ports.new.parser c.executive.new.parser _ c.in_err-exec.field-0.0 (search rules) (λ s. c.in_err-exec.ensures.same (want.mark sign.CloseBrace ∷ s)))

pub returns-in_err-sign-2-clause-same : goal.returns-in_err-sign-2-clause-same
returns-in_err-sign-2-clause-same c =
    leads-behind network_body (want.mark sign.CloseBrace ∷ []) [] c.args.parser.now c.executive.new.parser c.sign-2.new.self _ (λ s. c.in_ok-sign.ensures.same _ ∙ (c.in_ok-ports.ensures.same _ ∙ c.in_ok-exec.ensures.same _)) (search rules)

pub returns-clause-same : goal.returns-clause-same
returns-clause-same c = λ s.
    c.in_ok-sign.ensures.same _ ∙ (c.in_ok-ports.ensures.same _ ∙ (c.in_ok-exec.ensures.same _ ∙ c.in_ok-sign-2.ensures.same s))

pub returns-clause-took : goal.returns-clause-took
returns-clause-took c =
    let exec = c.in_ok-exec.ensures.took in
    read (one c.in_ok-sign.ensures.took ⨟ (all c.in_ok-ports.ensures.took ⨟ own exec) ⨟ one c.in_ok-sign-2.ensures.took) refl refl exec.good
