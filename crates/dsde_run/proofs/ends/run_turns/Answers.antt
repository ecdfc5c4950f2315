use Rattle.std.proofs.Common.{sym, subst}
use Rattle.std.specs.Prelude.{Result}
use Rattle.dsde_sim_tree.specs.declared.event.Finish.{Finish}
use Rattle.dsde_run.specs.declared.run.Cut.{Cut}
use Rattle.dsde_run.specs.Run.{go_by}
use Rattle.dsde_run.specs.Reading.{Told, Comes}
use Rattle.dsde_run.specs.Steps.{to_give}
use Rattle.dsde_run.proofs.ends.run_turns.Goals as goal

pub returns-clause-comes : goal.returns-clause-comes
returns-clause-comes g c =
    subst (λ (answer : Result Finish Cut). Told (g.R.Source.left c.args.source.now) (g.R.Source.left c.go.new.source) (λ before.
    Comes c.args.own.now c.args.pick (λ records. go_by g.E.Advance.engine (g.E.Advance.advance c.args.own.now.model) c.args.own.now c.args.turns records (g.E.Advance.state c.args.engine.now)) (to_give c.args.own.now c.args.reader.now before)
    (g.E.Advance.engine (g.E.Advance.state c.go.new.engine)) (g.W.Sink.written c.args.sink.now) (g.W.Sink.written c.go.new.sink) answer c.args.reader.now.held before)) (sym c.flat.ensures) c.go.ensures.comes
