use Rattle.std.proofs.Common.{Some, subst, ◌∙◌, rules}
use Rattle.dsde_language.specs.Judge.{judge}
use Rattle.dsde_check_expressions.specs.given.check_scope.Says.{Walks}
use Rattle.dsde_check_bodies.proofs.Found.{set_by, set_went}
use Rattle.dsde_check_bodies.proofs.assignments.set_to.Goals as goal

pub returns-in_err-may_set-clause-walks : goal.returns-in_err-may_set-clause-walks
returns-in_err-may_set-clause-walks c =
    subst (λ meant. Walks meant c.from_residual.result c.args.scope.now)
    (set_by c.args.around.now c.args.name.now (judge c.args.around.now c.args.value.now) c.args.scope.now (Some c.in-Some.bound.now) (rw c.as_slice.ensures at c.in-Some.ensures.item))
    (search rules)

pub returns-clause-walks : goal.returns-clause-walks
returns-clause-walks c =
    subst (λ meant. Walks meant c.taken.result c.taken.new.scope)
    (set_went c.args.around.now c.args.name.now c.in-Some.bound.now c.in_ok-ty.ty (judge c.args.around.now c.args.value.now) c.args.scope.now c.in_ok-may_set.field-0 (rw c.kind.ensures at c.in_ok-may_set.ensures) (c.in_ok-ty.ensures ∙ c.ty.ensures)
    ∙ set_by c.args.around.now c.args.name.now (judge c.args.around.now c.args.value.now) c.args.scope.now (Some c.in-Some.bound.now) (rw c.as_slice.ensures at c.in-Some.ensures.item))
    c.taken.ensures.walks
