use Rattle.std.proofs.Common.{sym, subst, ◌∙◌, arith}
use Rattle.std.specs.Prelude.{IfSome}
use Rattle.dsde_cli.specs.Asked.{pick_of}
use Rattle.dsde_cli.specs.Back.{ComesBack, IsOfBack, SaysBack}
use Rattle.dsde_cli.specs.Saved.{name_of}
use Rattle.dsde_cli.proofs.Returning.{back-stored, back-told, cause-back, fresh-back, not-few, not-unsaved-back, of-back, says-stored, says-told, stored-back-told}
use Rattle.dsde_cli.proofs.CliStoring.{was-done}
use Rattle.dsde_cli.proofs.resumed_runs.resume_loaded.Goals as goal

pub resume_turns-answer-requires-clause-bounded : goal.resume_turns-answer-requires-clause-bounded
resume_turns-answer-requires-clause-bounded g c = let early = c.requires.ready.early in let few = c.requires.turns in omega (arith, early, few)

pub resume_turns-answer-requires-clause-births : goal.resume_turns-answer-requires-clause-births
resume_turns-answer-requires-clause-births g c = let young = c.requires.ready.young in omega (arith, young)

pub store_where_asked-requires-clause-fresh : goal.store_where_asked-requires-clause-fresh
store_where_asked-requires-clause-fresh g c = λ well. fresh-back c.resume_turns-answer.result c.resume_turns-answer.new.core c.resume_turns-answer.ensures.unspent (sym c.status_back-status.ensures ∙ well)

pub store_where_asked-requires-clause-run : goal.store_where_asked-requires-clause-run
store_where_asked-requires-clause-run g c = λ unsaved. not-unsaved-back c.resume_turns-answer.result (sym c.status_back-status.ensures ∙ unsaved)

pub returns-clause-comes : goal.returns-clause-comes
returns-clause-comes g c =
    let told = back-told c.args.own.now (pick_of c.args.run.now.only) c.args.run.now.turns c.args.core.now.engine c.resume_turns-answer.new.core.engine (g.R.Source.left c.args.input.now) (g.R.Source.left c.resume_turns-answer.new.source) (g.W.Sink.written c.args.out.now) (g.W.Sink.written c.resume_turns-answer.new.sink) c.resume_turns-answer.result (rw c.pick_of.ensures at c.resume_turns-answer.ensures.comes) c.resume_turns-answer.ensures.quiet in
    back-stored c.args.own.now (pick_of c.args.run.now.only) c.args.run.now.turns c.args.core.now.engine (g.R.Source.left c.args.input.now) (g.R.Source.left c.resume_turns-answer.new.source) (g.W.Sink.written c.args.out.now) (g.W.Sink.written c.resume_turns-answer.new.sink) (name_of c.args.run.now.save) _ c.status_back-status.result c.store_where_asked.result c.store_where_asked.ensures.other c.store_where_asked.ensures.done
    (subst (λ status. IfSome (g.R.Source.left c.args.input.now) (λ bytes. IfSome (g.W.Sink.written c.args.out.now) (λ written. ComesBack c.args.own.now (pick_of c.args.run.now.only) c.args.run.now.turns c.args.core.now.engine bytes (g.R.Source.left c.resume_turns-answer.new.source) written (g.W.Sink.written c.resume_turns-answer.new.sink) status))) (sym c.status_back-status.ensures) told)

pub returns-clause-ends : goal.returns-clause-ends
returns-clause-ends g c =
    let told = says-told c.args.own.now (pick_of c.args.run.now.only) c.args.run.now.turns c.args.core.now.engine c.resume_turns-answer.new.core.engine (g.R.Source.left c.args.input.now) (g.R.Source.left c.resume_turns-answer.new.source) (g.W.Sink.written c.args.out.now) (g.W.Sink.written c.resume_turns-answer.new.sink) c.resume_turns-answer.result (rw c.pick_of.ensures at c.resume_turns-answer.ensures.comes) c.resume_turns-answer.ensures.quiet in
    says-stored c.args.own.now (pick_of c.args.run.now.only) c.args.run.now.turns c.args.core.now.engine (g.R.Source.left c.args.input.now) (g.R.Source.left c.resume_turns-answer.new.source) (name_of c.args.run.now.save) _ c.status_back-status.result c.store_where_asked.result c.store_where_asked.ensures.other c.store_where_asked.ensures.done
    (subst (λ status. IfSome (g.R.Source.left c.args.input.now) (λ bytes. SaysBack c.args.own.now c.args.run.now.turns c.args.core.now.engine bytes (g.R.Source.left c.resume_turns-answer.new.source) status)) (sym c.status_back-status.ensures) told)

pub returns-clause-stored : goal.returns-clause-stored
returns-clause-stored g c = λ well.
    stored-back-told c.args.own.now (pick_of c.args.run.now.only) c.args.run.now.turns c.args.core.now.engine (name_of c.args.run.now.save) c.resume_turns-answer.new.core (g.F.Shelf.held c.store_where_asked.new.shelf) (g.R.Source.left c.args.input.now) (g.R.Source.left c.resume_turns-answer.new.source) (g.W.Sink.written c.args.out.now) (g.W.Sink.written c.resume_turns-answer.new.sink) c.resume_turns-answer.result
    (sym c.status_back-status.ensures ∙ was-done c.status_back-status.result c.store_where_asked.result c.store_where_asked.ensures.other well) (c.resume_turns-answer.ensures.program ∙ c.requires.ready.of)
    (rw c.pick_of.ensures at c.resume_turns-answer.ensures.comes) c.resume_turns-answer.ensures.quiet (c.store_where_asked.ensures.stored well)

pub returns-clause-cause : goal.returns-clause-cause
returns-clause-cause g c =
    cause-back (name_of c.args.run.now.save) _ _ _ c.status_back-status.result c.store_where_asked.result c.store_where_asked.ensures.other c.store_where_asked.ensures.done
    (subst (IsOfBack (name_of c.args.run.now.save) _ _ _) (sym c.status_back-status.ensures) (of-back (name_of c.args.run.now.save) _ _ _ c.resume_turns-answer.result c.resume_turns-answer.ensures.unread c.resume_turns-answer.ensures.unwritten))

pub returns-clause-few : goal.returns-clause-few
returns-clause-few g c = λ few. not-few (name_of c.args.run.now.save) _ c.resume_turns-answer.result c.status_back-status.result c.store_where_asked.result _ c.status_back-status.ensures c.store_where_asked.ensures.other c.store_where_asked.ensures.done few (λ is. (c.resume_turns-answer.ensures.few is).0)
