use Rattle.std.proofs.Common.{rules}
use Rattle.dsde_parser_expressions.proofs.TookLemmas.{Took-comma, any-Took}
use Rattle.dsde_parser_declarations.proofs.decl.some_typed.Goals as goal

pub all-preserved : goal.all-preserved
all-preserved c =
    record {
      took = rw c.in_ok-push-2.ensures.ok (Took-comma _ c.all.invariant.took c.all-test.ensures.took (any-Took c.in_ok-typed-2.ensures.took));
      same = search rules;
    }
