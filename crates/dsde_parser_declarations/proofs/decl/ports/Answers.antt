use Rattle.dsde_parser_expressions.proofs.TookLemmas.{Took-push}
use Rattle.std.proofs.Common.{rules, sym, [], ◌∷◌}
use Rattle.dsde_parser_grammar.specs.Want as want
use Rattle.dsde_parser_expressions.proofs.LedLemmas.{leads-from, leads-behind}
use Rattle.dsde_parser_expressions.proofs.StepLemmas.{ports-more}
use Rattle.dsde_parser_declarations.proofs.decl.ports.Goals as goal

pub ports-preserved : goal.ports-preserved
ports-preserved c =
    record {
      took = rw c.in_ok-push.ensures.ok (Took-push _ c.ports.invariant.took c.in_ok-port.ensures.took);
      same = search rules;
    }

pub returns-in_err-port-clause-same : goal.returns-in_err-port-clause-same
returns-in_err-port-clause-same c =
    leads-behind (want.ports ∷ []) (want.ports ∷ []) [] c.args.parser.now c.ports.parser c.port.new.parser _ c.ports.invariant.same (leads-from (want.ports ∷ []) (want.port ∷ want.ports ∷ []) [] c.ports.parser c.port.new.parser _ (λ s. ports-more s c.ports.parser.0 c.ports.parser.1 (sym c.ports-test.ensures)) (search rules))
