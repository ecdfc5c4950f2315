use Rattle.std.proofs.Common.{◌≡◌, Ok, subst, arith}
use Rattle.std.proofs.lemmas.Result.{IfOk-weaker}
use Rattle.std.specs.Prelude.{IfOk}
use Rattle.dsde_syntax.specs.declared.decl.Model.{Model}
use Rattle.dsde_language.specs.DeclaredModels.{top_number}
use Rattle.dsde_plain.specs.given.system.Program.{system}
use Rattle.dsde_plain.specs.given.sim_working.Working as sim
use Rattle.dsde_plain.specs.given.sim_working.Working.{Working}
use Rattle.dsde_trace.specs.given.sim_tree.Told.{Tells}
use Rattle.dsde_trace.specs.given.sim_tree.Turn as turning
use Rattle.dsde_plain.specs.given.run.lemmas_Beginning.{path-starts}
use Rattle.dsde_test_cases.proofs.left.by_walking.Goals as goal

pub run_started-how-requires-clause-starts : goal.run_started-how-requires-clause-starts
run_started-how-requires-clause-starts c =
    path-starts (λ (plain : Working). plain.program) (λ (plain : Working). plain.engine) c.args.own.now c.new-events.result c.start-started.new.events c.start-started.result
    (subst (λ (m : Model). IfOk c.start-started.result (λ (plain : Working). plain.program ≡ m)) c.program.ensures c.start-started.ensures.program)
    (subst (λ (m : Model). IfOk c.start-started.result (λ (plain : Working). sim.IsRoot (top_number m) plain.engine)) c.program.ensures c.start-started.ensures.root)
    (subst (λ (m : Model). IfOk c.start-started.result (λ (plain : Working). Tells (turning.start (system m)) c.new-events.result c.start-started.new.events (Ok plain.engine))) c.program.ensures c.start-started.ensures.ok)

pub run_started-how-requires-clause-births : goal.run_started-how-requires-clause-births
run_started-how-requires-clause-births c = IfOk-weaker c.start-started.result _ _ (λ plain of. omega arith) c.start-started.ensures.program
