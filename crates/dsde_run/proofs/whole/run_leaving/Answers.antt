use Rattle.std.proofs.Common.{◌≡◌, List, Ok, Err, sym, subst, arith}
use Rattle.std.proofs.lemmas.Result.{IfOk-weaker}
use Rattle.std.specs.Prelude.{IfOk, IfErr}
use Rattle.dsde_syntax.specs.declared.decl.Model.{Model}
use Rattle.dsde_language.specs.DeclaredModels.{top_number}
use Rattle.dsde_image_rows.specs.given.system.Program.{system}
use Rattle.dsde_core.specs.given.sim_working.Working as sim
use Rattle.dsde_core.specs.Standing.{Standing}
use Rattle.dsde_sim_tree.specs.declared.event.Event.{Event}
use Rattle.dsde_sim_tree.specs.declared.fault.TurnEnd.{TurnEnd}
use Rattle.dsde_sim_tree.specs.Told.{Tells}
use Rattle.dsde_sim_tree.specs.Turn as turning
use Rattle.dsde_run.specs.Steps.{Begins}
use Rattle.dsde_run.specs.lemmas.Beginning.{begins-by, path-starts}
use Rattle.dsde_run.proofs.whole.run_leaving.Goals as goal

pub returns-clause-comes : goal.returns-clause-comes
returns-clause-comes g c = c.run_started.ensures.comes (turning.start (system c.args.own.now.model)) (subst (λ (events : List Event). Begins (λ (core : Standing). core.engine) (turning.start (system c.args.own.now.model)) events c.start-started.result) (sym c.as_slice.ensures)
    (begins-by (λ (core : Standing). core.engine) (turning.start (system c.args.own.now.model)) c.new-events.result c.start-started.new.events c.start-started.result c.new-events.ensures
    (subst (λ (m : Model). IfOk c.start-started.result (λ (core : Standing). Tells (turning.start (system m)) c.new-events.result c.start-started.new.events (Ok core.engine))) c.program.ensures c.start-started.ensures.ok)
    (subst (λ (m : Model). IfErr c.start-started.result (λ (why : TurnEnd). Tells (turning.start (system m)) c.new-events.result c.start-started.new.events (Err why))) c.program.ensures c.start-started.ensures.err)))

pub returns-clause-taken : goal.returns-clause-taken
returns-clause-taken g c = c.run_started.ensures.taken (turning.start (system c.args.own.now.model)) (subst (λ (events : List Event). Begins (λ (core : Standing). core.engine) (turning.start (system c.args.own.now.model)) events c.start-started.result) (sym c.as_slice.ensures)
    (begins-by (λ (core : Standing). core.engine) (turning.start (system c.args.own.now.model)) c.new-events.result c.start-started.new.events c.start-started.result c.new-events.ensures
    (subst (λ (m : Model). IfOk c.start-started.result (λ (core : Standing). Tells (turning.start (system m)) c.new-events.result c.start-started.new.events (Ok core.engine))) c.program.ensures c.start-started.ensures.ok)
    (subst (λ (m : Model). IfErr c.start-started.result (λ (why : TurnEnd). Tells (turning.start (system m)) c.new-events.result c.start-started.new.events (Err why))) c.program.ensures c.start-started.ensures.err)))

pub returns-clause-stands : goal.returns-clause-stands
returns-clause-stands g c = c.run_started.ensures.stands (turning.start (system c.args.own.now.model)) (subst (λ (events : List Event). Begins (λ (core : Standing). core.engine) (turning.start (system c.args.own.now.model)) events c.start-started.result) (sym c.as_slice.ensures)
    (begins-by (λ (core : Standing). core.engine) (turning.start (system c.args.own.now.model)) c.new-events.result c.start-started.new.events c.start-started.result c.new-events.ensures
    (subst (λ (m : Model). IfOk c.start-started.result (λ (core : Standing). Tells (turning.start (system m)) c.new-events.result c.start-started.new.events (Ok core.engine))) c.program.ensures c.start-started.ensures.ok)
    (subst (λ (m : Model). IfErr c.start-started.result (λ (why : TurnEnd). Tells (turning.start (system m)) c.new-events.result c.start-started.new.events (Err why))) c.program.ensures c.start-started.ensures.err)))

pub run_started-requires-clause-starts : goal.run_started-requires-clause-starts
run_started-requires-clause-starts g c =
    path-starts (λ (core : Standing). core.program) (λ (core : Standing). core.engine) c.args.own.now c.new-events.result c.start-started.new.events c.start-started.result
    (subst (λ (m : Model). IfOk c.start-started.result (λ (core : Standing). core.program ≡ m)) c.program.ensures c.start-started.ensures.program)
    (subst (λ (m : Model). IfOk c.start-started.result (λ (core : Standing). sim.IsRoot (top_number m) core.engine)) c.program.ensures c.start-started.ensures.root)
    (subst (λ (m : Model). IfOk c.start-started.result (λ (core : Standing). Tells (turning.start (system m)) c.new-events.result c.start-started.new.events (Ok core.engine))) c.program.ensures c.start-started.ensures.ok)

pub run_started-requires-clause-births : goal.run_started-requires-clause-births
run_started-requires-clause-births g c = IfOk-weaker c.start-started.result _ _ (λ core few. omega (arith, few)) c.start-started.ensures.born
