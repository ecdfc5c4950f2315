use Rattle.std.proofs.Common.{subst}
use Rattle.dsde_language.specs.Judge.{judge}
use Rattle.dsde_check_expressions.specs.given.check_scope.Says.{Walks}
use Rattle.dsde_check_bodies.proofs.Found.{sent_by}
use Rattle.dsde_check_bodies.proofs.assignments.send_to.Goals as goal

pub returns-in-Some-clause-walks : goal.returns-in-Some-clause-walks
returns-in-Some-clause-walks c =
    subst (λ meant. Walks meant c.send_of.result c.send_of.new.scope)
    (sent_by c.args.ports.now c.args.name.now (judge c.args.around.now c.args.value.now) c.args.scope.now _ (rw c.as_slice.ensures at c.in-Some.ensures.item))
    c.send_of.ensures.walks
