use Rattle.std.proofs.Common.{arith, ◌∙◌, ap, sym, subst, Err, Ok, IfErr}
use Rattle.std.proofs.lemmas.Result.{err_from_is_err_and}
use Rattle.rand_pcg.specs.Lcg.{Lcg}
use Rattle.dsde_sim_tree.specs.Told.{Tells}
use Rattle.dsde_sim_tree.specs.Engine.{begun}
use Rattle.dsde_run.specs.given.system.Program.{system}
use Rattle.dsde_order.specs.Free.{start}
use Rattle.dsde_run_free.proofs.Advancing.{start-ends, start-ok, start-stops}
use Rattle.dsde_run_free.proofs.free.Free.start.Goals as goal

pub returns-in_err-args-clause-err : goal.returns-in_err-args-clause-err
returns-in_err-args-clause-err c =
    let e = err_from_is_err_and c.from_residual.result c.from_residual.ensures.1 in
    subst (λ result. IfErr result (λ end. Tells (start (system c.args.program.now) c.args.seed) c.args.events.now c.args.events.now (Err end))) (sym (e.1 ∙ ap Err e.2))
    (start-ends (system c.args.program.now) c.args.seed c.args.events.now c.in_err-args.field-0.0 c.in_err-args.ensures.comes)

pub returns-in_err-tree-clause-err : goal.returns-in_err-tree-clause-err
returns-in_err-tree-clause-err c =
    let e = err_from_is_err_and c.from_residual-in_err-tree.result c.from_residual-in_err-tree.ensures.1 in
    subst (λ result. IfErr result (λ end. Tells (start (system c.args.program.now) c.args.seed) c.args.events.now c.started.new.events (Err end))) (sym (e.1 ∙ ap Err e.2))
    (start-stops (system c.args.program.now) c.args.seed c.args.events.now _ c.in_ok-args.ensures.comes c.in_err-tree.field-0.0 c.started.new.events c.in_err-tree.ensures.told)

pub returns-clause-ok : goal.returns-clause-ok
returns-clause-ok c =
    subst (λ (generator : Lcg). Tells (start (system c.args.program.now) c.args.seed) c.args.events.now c.started.new.events (Ok (record { engine = begun c.in_ok-tree.tree; generator = generator }))) (sym c.seed_from_u64.ensures)
    (start-ok (system c.args.program.now) c.args.seed c.args.events.now _ c.in_ok-args.ensures.comes c.in_ok-tree.tree c.started.new.events c.in_ok-tree.ensures.told)

pub invariant_of-result : goal.invariant_of-result
invariant_of-result c = (c.in_ok-tree.ensures.stands, omega arith)
