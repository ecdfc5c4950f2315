use Rattle.std.proofs.Common.{rules}
use Rattle.dsde_parser_expressions.proofs.TookLemmas.{Took-comma, any-Took}
use Rattle.dsde_parser_declarations.proofs.decl.ids.Goals as goal

pub ids-preserved : goal.ids-preserved
ids-preserved c =
    record {
      took = rw c.in_ok-push-2.ensures.ok (Took-comma _ c.ids.invariant.took c.ids-test.ensures.took (any-Took c.in_ok-name-2.ensures.took));
      same = search rules;
    }
