use Rattle.std.proofs.Common.{sym, subst, ◌∙◌}
use Rattle.std.specs.Prelude.{IfSome}
use Rattle.dsde_io.specs.Fault.{Rose}
use Rattle.dsde_run_free.specs.given.run.Run.{records_in}
use Rattle.dsde_cli_command.specs.Commands.{run_asked}
use Rattle.dsde_cli.specs.Asked.{pick_of, tells_on}
use Rattle.dsde_cli.specs.RunOutcome.{ComesOn, IsOfRun, SaysEnd}
use Rattle.dsde_cli.specs.Saved.{name_of}
use Rattle.dsde_cli.proofs.CliComing.{comes-told, ends-told, of-run}
use Rattle.dsde_cli.proofs.CliStoring.{cause-stored, comes-stored, ends-stored, left-fresh, not-unsaved, of-run-stored, stored-told, was-done}
use Rattle.dsde_cli.proofs.whole_runs.run_and_store.Goals as goal

pub store_left-requires-clause-fresh : goal.store_left-requires-clause-fresh
store_left-requires-clause-fresh g c = λ well. left-fresh c.args.own.now.model c.run_leaving-answer.result c.run_leaving-answer.new.left c.run_leaving-answer.ensures.left (sym c.status_by.ensures ∙ well)

pub store_left-requires-clause-run : goal.store_left-requires-clause-run
store_left-requires-clause-run g c = λ unsaved. not-unsaved c.run_leaving-answer.result (sym c.status_by.ensures ∙ unsaved)

pub returns-clause-comes : goal.returns-clause-comes
returns-clause-comes g c =
    let told = comes-told c.args.own.now (pick_of c.args.run.now.only) (tells_on c.args.own.now (run_asked c.args.run.now)) (records_in c.args.own.now) (g.R.Source.left c.args.input.now) (g.R.Source.left c.run_leaving-answer.new.source) (g.W.Sink.written c.args.out.now) (g.W.Sink.written c.run_leaving-answer.new.sink)
    c.run_leaving-answer.result (rw c.pick_of.ensures at c.run_leaving-answer.ensures.comes) c.run_leaving-answer.ensures.quiet in
    comes-stored c.args.own.now (pick_of c.args.run.now.only) (tells_on c.args.own.now (run_asked c.args.run.now)) (records_in c.args.own.now) (g.R.Source.left c.args.input.now) (g.R.Source.left c.run_leaving-answer.new.source) (g.W.Sink.written c.args.out.now) (g.W.Sink.written c.run_leaving-answer.new.sink)
    (name_of c.args.run.now.save) _ c.status_by.result c.store_left.result c.store_left.ensures.other c.store_left.ensures.done
    (subst (λ status. IfSome (g.R.Source.left c.args.input.now) (λ bytes. IfSome (g.W.Sink.written c.args.out.now) (λ written. ComesOn c.args.own.now (pick_of c.args.run.now.only) (tells_on c.args.own.now (run_asked c.args.run.now)) (records_in c.args.own.now bytes) bytes (g.R.Source.left c.run_leaving-answer.new.source) written (g.W.Sink.written c.run_leaving-answer.new.sink) status)))
    (sym c.status_by.ensures) told)

pub returns-clause-ends : goal.returns-clause-ends
returns-clause-ends g c =
    let told = ends-told c.args.own.now (pick_of c.args.run.now.only) (tells_on c.args.own.now (run_asked c.args.run.now)) (records_in c.args.own.now) (g.R.Source.left c.args.input.now) (g.R.Source.left c.run_leaving-answer.new.source) (g.W.Sink.written c.args.out.now) (g.W.Sink.written c.run_leaving-answer.new.sink)
    c.run_leaving-answer.result (rw c.pick_of.ensures at c.run_leaving-answer.ensures.comes) c.run_leaving-answer.ensures.quiet in
    ends-stored (λ bytes. tells_on c.args.own.now (run_asked c.args.run.now) (records_in c.args.own.now bytes)) (g.R.Source.left c.args.input.now) (g.R.Source.left c.run_leaving-answer.new.source)
    (name_of c.args.run.now.save) _ c.status_by.result c.store_left.result c.store_left.ensures.other c.store_left.ensures.done
    (subst (λ status. IfSome (g.R.Source.left c.args.input.now) (λ bytes. SaysEnd (tells_on c.args.own.now (run_asked c.args.run.now) (records_in c.args.own.now bytes)).end (g.R.Source.left c.run_leaving-answer.new.source) status)) (sym c.status_by.ensures) told)

pub returns-clause-stored : goal.returns-clause-stored
returns-clause-stored g c = λ well.
    let told = ends-told c.args.own.now (pick_of c.args.run.now.only) (tells_on c.args.own.now (run_asked c.args.run.now)) (records_in c.args.own.now) (g.R.Source.left c.args.input.now) (g.R.Source.left c.run_leaving-answer.new.source) (g.W.Sink.written c.args.out.now) (g.W.Sink.written c.run_leaving-answer.new.sink)
    c.run_leaving-answer.result (rw c.pick_of.ensures at c.run_leaving-answer.ensures.comes) c.run_leaving-answer.ensures.quiet in
    stored-told (name_of c.args.run.now.save) c.args.own.now.model (g.F.Shelf.held c.store_left.new.shelf) (λ bytes. tells_on c.args.own.now (run_asked c.args.run.now) (records_in c.args.own.now bytes)) (g.R.Source.left c.args.input.now) (g.R.Source.left c.run_leaving-answer.new.source)
    c.run_leaving-answer.result c.run_leaving-answer.new.left (sym c.status_by.ensures ∙ was-done c.status_by.result c.store_left.result c.store_left.ensures.other well)
    c.run_leaving-answer.ensures.left c.run_leaving-answer.ensures.stands (c.store_left.ensures.stored well) told

pub returns-clause-cause : goal.returns-clause-cause
returns-clause-cause g c =
    cause-stored (name_of c.args.run.now.save) _ _ _ c.status_by.result c.store_left.result c.store_left.ensures.other c.store_left.ensures.done
    (of-run-stored (name_of c.args.run.now.save) _ _ _ c.status_by.result
    (subst (IsOfRun (Rose (g.R.Source.faults c.args.input.now) (g.R.Source.faults c.run_leaving-answer.new.source)) (Rose (g.W.Sink.faults c.args.out.now) (g.W.Sink.faults c.run_leaving-answer.new.sink))) (sym c.status_by.ensures) (of-run _ _ c.run_leaving-answer.result c.run_leaving-answer.ensures.unread c.run_leaving-answer.ensures.unwritten)))
