use Rattle.std.proofs.Common.{◌≡◌, [], inl, inr, sym, subst}
use Rattle.std.specs.Prelude.{IfSome}
use Rattle.dsde_run_free.specs.given.run.Reading.{Told, TakesWanted}
use Rattle.dsde_run_free.specs.given.run.Run.{records_in}
use Rattle.dsde_run_free.specs.given.run.SavedRuns.{image_left}
use Rattle.dsde_cli_command.specs.Commands.{run_asked}
use Rattle.dsde_cli.specs.Asked.{pick_of, tells_on}
use Rattle.dsde_cli.specs.RunOutcome.{Comes, SaysEnd}
use Rattle.dsde_cli.specs.Saved.{Stores}
use Rattle.dsde_cli_status.specs.declared.status.Status.TheVariants.{Done}
use Rattle.dsde_cli_status.specs.given.cli_verdict.Verdict.{Refuses}
use Rattle.dsde_cli.proofs.Completing.{none-completes, run-completes, run-ends}
use Rattle.dsde_cli.specs.lemmas.Fronts.{none-taken}
use Rattle.dsde_cli.specs.lemmas.Later.{leaves-later, rose-later, stored-later}
use Rattle.dsde_cli.proofs.Later.{run-not-before}
use Rattle.dsde_cli.proofs.Loads.{comes-cut, leaves-unloaded, never-none, refusal_tells, run_cut, run_unrefused, told_same, done_is_no_cut}
use Rattle.dsde_cli.proofs.run.load_and_run.Goals as goal

pub returns-in-Ok-clause-runs : goal.returns-in-Ok-clause-runs
returns-in-Ok-clause-runs g c = λ own holds.
    subst (λ own. IfSome (g.R.Source.left c.args.input.now) (λ bytes. IfSome (g.W.Sink.written c.args.out.now) (λ written.
    Comes own (pick_of c.args.run.now.only) (tells_on own (run_asked c.args.run.now)) bytes (g.R.Source.left c.run_loaded.new.input) written (g.W.Sink.written c.run_loaded.new.out) c.run_loaded.result)))
    (sym (c.in-Ok.ensures.only own holds)) c.run_loaded.ensures.comes

pub returns-in-Ok-clause-ends : goal.returns-in-Ok-clause-ends
returns-in-Ok-clause-ends g c = λ own holds.
    subst (λ own. IfSome (g.R.Source.left c.args.input.now) (λ bytes.
    SaysEnd (tells_on own (run_asked c.args.run.now) (records_in own bytes)).end (g.R.Source.left c.run_loaded.new.input) c.run_loaded.result))
    (sym (c.in-Ok.ensures.only own holds)) c.run_loaded.ensures.ends

pub returns-in-Ok-clause-stored : goal.returns-in-Ok-clause-stored
returns-in-Ok-clause-stored g c = λ own holds.
    subst (λ own. c.run_loaded.result ≡ Done → IfSome (g.R.Source.left c.args.input.now) (λ bytes.
    Stores (run_asked c.args.run.now).save (image_left own.model (tells_on own (run_asked c.args.run.now) (records_in own bytes))) (g.F.Shelf.held c.run_loaded.new.shelf)))
    (sym (c.in-Ok.ensures.only own holds)) c.run_loaded.ensures.stored

pub returns-in-Ok-clause-taken : goal.returns-in-Ok-clause-taken
returns-in-Ok-clause-taken g c = λ own holds.
    subst (λ own. Told (g.R.Source.left c.args.input.now) (g.R.Source.left c.run_loaded.new.input) (λ before.
    TakesWanted (tells_on own (run_asked c.args.run.now)) (records_in own before) [] before))
    (sym (c.in-Ok.ensures.only own holds)) c.run_loaded.ensures.taken

pub returns-in-Ok-clause-complete : goal.returns-in-Ok-clause-complete
returns-in-Ok-clause-complete g c = λ own holds shelf source sink.
    run-completes own (tells_on own (run_asked c.args.run.now))
    (run-ends c.inputs_arrive.ensures c.args.run.now.model.now (g.F.Shelf.held c.args.shelf.now) own holds c.runs_end.ensures c.args.run.now.turns) (run_asked c.args.run.now).save _ _ _
    (g.R.Source.left c.args.input.now) (g.R.Source.left c.run_loaded.new.input) c.run_loaded.result c.run_loaded.ensures.cause
    (subst (λ own. IfSome (g.R.Source.left c.args.input.now) (λ bytes.
    SaysEnd (tells_on own (run_asked c.args.run.now) (records_in own bytes)).end (g.R.Source.left c.run_loaded.new.input) c.run_loaded.result))
    (sym (c.in-Ok.ensures.only own holds)) c.run_loaded.ensures.ends)
    (λ rose. shelf (rose-later (g.F.Shelf.faults c.args.shelf.now) (g.F.Shelf.faults c.load_runnable.new.shelf) (g.F.Shelf.faults c.run_loaded.new.shelf) c.load_runnable.ensures.counted rose)) source sink

pub returns-in-Ok-clause-cause : goal.returns-in-Ok-clause-cause
returns-in-Ok-clause-cause g c =
    inr (
      c.in-Ok.ensures.runs,
      stored-later (run_asked c.args.run.now).save _ _ _ _ c.run_loaded.result
          (rose-later (g.F.Shelf.faults c.args.shelf.now) (g.F.Shelf.faults c.load_runnable.new.shelf) (g.F.Shelf.faults c.run_loaded.new.shelf) c.load_runnable.ensures.counted) c.run_loaded.ensures.cause,
    )

pub returns-in-Ok-clause-refused : goal.returns-in-Ok-clause-refused
returns-in-Ok-clause-refused g c = λ kind line column has.
    absurd (run_unrefused c.one_verdict.ensures c.args.run.now.model.now (g.F.Shelf.held c.args.shelf.now) kind line column c.in-Ok.ensures.runs has)

pub returns-in-Ok-clause-unrun : goal.returns-in-Ok-clause-unrun
returns-in-Ok-clause-unrun g c = λ none. absurd (never-none c.args.run.now.model.now (g.F.Shelf.held c.args.shelf.now) c.in-Ok.ensures.runs none)

pub returns-in-Ok-clause-untouched : goal.returns-in-Ok-clause-untouched
returns-in-Ok-clause-untouched g c = λ before. absurd (run-not-before (run_asked c.args.run.now).save _ _ _ c.run_loaded.result c.run_loaded.ensures.cause before)

pub returns-in-Ok-clause-kept : goal.returns-in-Ok-clause-kept
returns-in-Ok-clause-kept g c =
    leaves-later (run_asked c.args.run.now).save _ _ (g.F.Shelf.held c.args.shelf.now) (g.F.Shelf.held c.load_runnable.new.shelf) (g.F.Shelf.held c.run_loaded.new.shelf) c.run_loaded.result c.load_runnable.ensures.kept
    (rose-later (g.F.Shelf.faults c.args.shelf.now) (g.F.Shelf.faults c.load_runnable.new.shelf) (g.F.Shelf.faults c.run_loaded.new.shelf) c.load_runnable.ensures.counted) c.run_loaded.ensures.kept

pub returns-in-Err-clause-taken : goal.returns-in-Err-clause-taken
returns-in-Err-clause-taken g c = λ own holds. none-taken (tells_on own (run_asked c.args.run.now)) (records_in own) (g.R.Source.left c.args.input.now)

pub returns-in-Err-clause-runs : goal.returns-in-Err-clause-runs
returns-in-Err-clause-runs g c = λ own holds.
    let out = g.W.Sink.written c.args.out.now in
    let left = g.R.Source.left c.args.input.now in
    let cut = run_cut c.one_verdict.ensures c.args.run.now.model.now (g.F.Shelf.held c.args.shelf.now) _ c.in-Err.status own c.in-Err.ensures.none holds in
    told_same left (λ bytes. IfSome out (λ written. Comes own (pick_of c.args.run.now.only) (tells_on own (run_asked c.args.run.now)) bytes left written out c.in-Err.status))
    (λ bytes is. told_same out (λ written. Comes own (pick_of c.args.run.now.only) (tells_on own (run_asked c.args.run.now)) bytes left written out c.in-Err.status)
    (λ written told. comes-cut own (pick_of c.args.run.now.only) (tells_on own (run_asked c.args.run.now)) bytes left written out c.in-Err.status cut told))

pub returns-in-Err-clause-stored : goal.returns-in-Err-clause-stored
returns-in-Err-clause-stored g c = λ own holds well.
    absurd (done_is_no_cut c.in-Err.status well (run_cut c.one_verdict.ensures c.args.run.now.model.now (g.F.Shelf.held c.args.shelf.now) _ c.in-Err.status own c.in-Err.ensures.none holds))

pub returns-in-Err-clause-complete : goal.returns-in-Err-clause-complete
returns-in-Err-clause-complete g c = λ own holds shelf source sink.
    none-completes own (tells_on own (run_asked c.args.run.now))
    (run-ends c.inputs_arrive.ensures c.args.run.now.model.now (g.F.Shelf.held c.args.shelf.now) own holds c.runs_end.ensures c.args.run.now.turns)
    c.args.run.now.model.now (g.F.Shelf.held c.args.shelf.now) _
    (g.R.Source.left c.args.input.now) c.in-Err.status c.in-Err.ensures.none
    (run_cut c.one_verdict.ensures c.args.run.now.model.now (g.F.Shelf.held c.args.shelf.now) _ c.in-Err.status own c.in-Err.ensures.none holds) shelf

pub returns-in-Err-clause-cause : goal.returns-in-Err-clause-cause
returns-in-Err-clause-cause g c = inl c.in-Err.ensures.none

pub returns-in-Err-clause-refused : goal.returns-in-Err-clause-refused
returns-in-Err-clause-refused g c = λ kind line column has.
    refusal_tells c.one_verdict.ensures c.args.run.now.model.now (g.F.Shelf.held c.args.shelf.now) _ c.in-Err.status kind line column c.in-Err.ensures.none has

pub returns-in-Err-clause-kept : goal.returns-in-Err-clause-kept
returns-in-Err-clause-kept g c =
    leaves-unloaded Refuses (run_asked c.args.run.now).save c.args.run.now.model.now (g.F.Shelf.held c.args.shelf.now) (g.F.Shelf.held c.load_runnable.new.shelf) _ c.in-Err.status c.load_runnable.ensures.kept c.in-Err.ensures.none
