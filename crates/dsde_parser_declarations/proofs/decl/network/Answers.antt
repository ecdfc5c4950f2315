use Rattle.std.proofs.Common.{rules, ◌∙◌, [], ◌∷◌, ◌++◌, refl}
use Rattle.dsde_parser_grammar.specs.Steps.{network_body, params}
use Rattle.dsde_words.specs.declared.key.Key.TheVariants as key
use Rattle.dsde_parser_grammar.specs.Want as want
use Rattle.dsde_parser_expressions.proofs.LedLemmas.{leads-behind}
use Rattle.dsde_parser_expressions.proofs.PartLemmas.{one-at, own, ◌⨟◌, read}
use Rattle.dsde_parser_declarations.proofs.DeclLemmas.{true-and}
use Rattle.dsde_parser_declarations.proofs.decl.network.Goals as goal

pub returns-in_err-ports-clause-same : goal.returns-in_err-ports-clause-same
returns-in_err-ports-clause-same c =
    leads-behind (want.word key.Network ∷ want.name ∷ (params ++ network_body)) network_body [] c.args.parser.now c.params.new.parser c.network_body.new.parser _ (λ s. c.in_ok-at.ensures.same _ ∙ (c.in_ok-name.ensures.same _ ∙ c.in_ok-params.ensures.same _)) (search rules)

pub returns-clause-took : goal.returns-clause-took
returns-clause-took c =
    let body = c.in_ok-ports.ensures.took in
    rw c.into_inner-body.ensures (read (one-at c.in_ok-at.ensures.took c.in_ok-at.ensures.place ⨟ own c.in_ok-name.ensures.took ⨟ own c.in_ok-params.ensures.took ⨟ own body) refl refl (true-and _ _ body.good.0 body.good.1))
