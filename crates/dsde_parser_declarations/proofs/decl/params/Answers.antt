use Rattle.std.proofs.Common.{rules, sym, [], ◌∷◌, ◌++◌, refl}
use Rattle.dsde_syntax.specs.declared.token.Sign.TheVariants as sign
use Rattle.dsde_parser_grammar.specs.Want as want
use Rattle.dsde_parser_grammar.specs.Steps.{params, typed}
use Rattle.dsde_parser_expressions.proofs.LedLemmas.{leads-from, leads-behind}
use Rattle.dsde_parser_expressions.proofs.StepLemmas.{params-some}
use Rattle.dsde_parser_expressions.proofs.PartLemmas.{one, own, ◌⨟◌, read}
use Rattle.dsde_parser_declarations.proofs.decl.params.Goals as goal

pub returns-in_err-params-clause-same : goal.returns-in_err-params-clause-same
returns-in_err-params-clause-same c =
    leads-behind params (want.params_rest ∷ []) [] c.args.parser.now c.sign.new.self c.some_typed.new.parser _ (λ s. c.in_ok-sign.ensures.same (want.params_rest ∷ s)) (leads-from (want.params_rest ∷ []) (typed ++ want.more_typed ∷ want.mark sign.CloseParen ∷ []) [] c.sign.new.self c.some_typed.new.parser _ (λ s. params-some s c.sign.new.self.0 c.sign.new.self.1 (sym c.if-takes_sign.ensures.comes)) (search rules))

pub returns-in_err-sign-2-clause-same : goal.returns-in_err-sign-2-clause-same
returns-in_err-sign-2-clause-same c =
    leads-behind params (want.params_rest ∷ []) [] c.args.parser.now c.sign.new.self c.sign-2.new.self _ (λ s. c.in_ok-sign.ensures.same (want.params_rest ∷ s)) (leads-from (want.params_rest ∷ []) (typed ++ want.more_typed ∷ want.mark sign.CloseParen ∷ []) [] c.sign.new.self c.sign-2.new.self _ (λ s. params-some s c.sign.new.self.0 c.sign.new.self.1 (sym c.if-takes_sign.ensures.comes)) (search rules))

pub returns-clause-took : goal.returns-clause-took
returns-clause-took c =
    let begun = rw (← c.if-takes_sign.ensures.took) at c.in_ok-sign.ensures.took in
    read (one begun ⨟ own c.in_ok-params.ensures.took ⨟ one c.in_ok-sign-2.ensures.took) refl refl tt
