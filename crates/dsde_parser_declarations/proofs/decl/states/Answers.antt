use Rattle.dsde_parser_expressions.proofs.TookLemmas.{Took-push}
use Rattle.std.proofs.Common.{rules, sym, [], ◌∷◌, ◌++◌}
use Rattle.dsde_words.specs.declared.key.Key.TheVariants as key
use Rattle.dsde_syntax.specs.declared.token.Sign.TheVariants as sign
use Rattle.dsde_parser_grammar.specs.Want as want
use Rattle.dsde_parser_grammar.specs.Steps.{typed}
use Rattle.dsde_parser_expressions.proofs.LedLemmas.{leads-from, leads-behind}
use Rattle.dsde_parser_expressions.proofs.StepLemmas.{states-more}
use Rattle.dsde_parser_declarations.proofs.decl.states.Goals as goal

pub states-preserved : goal.states-preserved
states-preserved c =
    record {
      took = rw c.in_ok-push.ensures.ok (Took-push _ c.states.invariant.took c.in_ok-state.ensures.took);
      same = search rules;
    }

pub returns-in_err-state-clause-same : goal.returns-in_err-state-clause-same
returns-in_err-state-clause-same c =
    leads-behind (want.states ∷ []) (want.states ∷ []) [] c.args.parser.now c.states.parser c.state.new.parser _ c.states.invariant.same (leads-from (want.states ∷ []) (want.word key.State ∷ (typed ++ want.mark sign.Equal ∷ want.expr ∷ want.mark sign.Semicolon ∷ want.states ∷ [])) [] c.states.parser c.state.new.parser _ (λ s. states-more s c.states.parser.0 c.states.parser.1 (sym c.states-test.ensures)) (search rules))
