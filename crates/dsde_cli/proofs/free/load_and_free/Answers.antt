use Rattle.std.proofs.Common.{[], None, inl, inr, sym, subst}
use Rattle.std.specs.Prelude.{IfSome}
use Rattle.dsde_io.specs.Fault.{Rose}
use Rattle.dsde_run_free.specs.given.run.Reading.{Told, TakesWanted}
use Rattle.dsde_run_free.specs.given.run.Run.{records_in}
use Rattle.dsde_cli_status.specs.given.trace.pick_Pick_TheVariants.{All}
use Rattle.dsde_cli.specs.Asked.{drawn_on}
use Rattle.dsde_cli.specs.RunOutcome.{Comes, SaysEnd}
use Rattle.dsde_cli.specs.lemmas.Fronts.{none-taken}
use Rattle.dsde_cli.proofs.Completing.{drawn-ends, none-completes, run-completes}
use Rattle.dsde_cli.proofs.Later.{drawn-not-before, drawn-unsaved}
use Rattle.dsde_cli.proofs.Loads.{comes-cut, never-none, refusal_tells, run_cut, run_unrefused, told_same}
use Rattle.dsde_cli.proofs.free.load_and_free.Goals as goal

pub returns-in-Ok-clause-runs : goal.returns-in-Ok-clause-runs
returns-in-Ok-clause-runs g c = λ own holds.
    subst (λ own. IfSome (g.R.Source.left c.args.input.now) (λ bytes. IfSome (g.W.Sink.written c.args.out.now) (λ written.
    Comes own All (drawn_on own c.args.seed c.args.turns) bytes (g.R.Source.left c.free_loaded.new.input) written (g.W.Sink.written c.free_loaded.new.out) c.free_loaded.result)))
    (sym (c.in-Ok.ensures.only own holds)) c.free_loaded.ensures.comes

pub returns-in-Ok-clause-ends : goal.returns-in-Ok-clause-ends
returns-in-Ok-clause-ends g c = λ own holds.
    subst (λ own. IfSome (g.R.Source.left c.args.input.now) (λ bytes.
    SaysEnd (drawn_on own c.args.seed c.args.turns (records_in own bytes)).end (g.R.Source.left c.free_loaded.new.input) c.free_loaded.result))
    (sym (c.in-Ok.ensures.only own holds)) c.free_loaded.ensures.ends

pub returns-in-Ok-clause-complete : goal.returns-in-Ok-clause-complete
returns-in-Ok-clause-complete g c = λ own holds shelf source sink.
    run-completes own (drawn_on own c.args.seed c.args.turns)
    (drawn-ends c.inputs_arrive.ensures c.args.name.now (g.F.Shelf.held c.args.shelf.now) own holds c.drawn_runs_end.ensures c.args.seed c.args.turns) None _ _ _
    (g.R.Source.left c.args.input.now) (g.R.Source.left c.free_loaded.new.input) c.free_loaded.result
    (drawn-unsaved (Rose (g.F.Shelf.faults c.args.shelf.now) (g.F.Shelf.faults c.load_runnable.new.shelf)) _ _ c.free_loaded.result c.free_loaded.ensures.cause)
    (subst (λ own. IfSome (g.R.Source.left c.args.input.now) (λ bytes.
    SaysEnd (drawn_on own c.args.seed c.args.turns (records_in own bytes)).end (g.R.Source.left c.free_loaded.new.input) c.free_loaded.result))
    (sym (c.in-Ok.ensures.only own holds)) c.free_loaded.ensures.ends)
    shelf source sink

pub returns-in-Ok-clause-taken : goal.returns-in-Ok-clause-taken
returns-in-Ok-clause-taken g c = λ own holds.
    subst (λ own. Told (g.R.Source.left c.args.input.now) (g.R.Source.left c.free_loaded.new.input) (λ before.
    TakesWanted (drawn_on own c.args.seed c.args.turns) (records_in own before) [] before))
    (sym (c.in-Ok.ensures.only own holds)) c.free_loaded.ensures.taken

pub returns-in-Ok-clause-cause : goal.returns-in-Ok-clause-cause
returns-in-Ok-clause-cause g c =
    inr (
      c.in-Ok.ensures.runs,
      drawn-unsaved (Rose (g.F.Shelf.faults c.args.shelf.now) (g.F.Shelf.faults c.load_runnable.new.shelf)) _ _ c.free_loaded.result c.free_loaded.ensures.cause,
    )

pub returns-in-Ok-clause-refused : goal.returns-in-Ok-clause-refused
returns-in-Ok-clause-refused g c = λ kind line column has.
    absurd (run_unrefused c.one_verdict.ensures c.args.name.now (g.F.Shelf.held c.args.shelf.now) kind line column c.in-Ok.ensures.runs has)

pub returns-in-Ok-clause-unrun : goal.returns-in-Ok-clause-unrun
returns-in-Ok-clause-unrun g c = λ none. absurd (never-none c.args.name.now (g.F.Shelf.held c.args.shelf.now) c.in-Ok.ensures.runs none)

pub returns-in-Ok-clause-untouched : goal.returns-in-Ok-clause-untouched
returns-in-Ok-clause-untouched g c = λ before. absurd (drawn-not-before _ _ c.free_loaded.result c.free_loaded.ensures.cause before)

pub returns-in-Err-clause-taken : goal.returns-in-Err-clause-taken
returns-in-Err-clause-taken g c = λ own holds. none-taken (drawn_on own c.args.seed c.args.turns) (records_in own) (g.R.Source.left c.args.input.now)

pub returns-in-Err-clause-runs : goal.returns-in-Err-clause-runs
returns-in-Err-clause-runs g c = λ own holds.
    let out = g.W.Sink.written c.args.out.now in
    let left = g.R.Source.left c.args.input.now in
    let cut = run_cut c.one_verdict.ensures c.args.name.now (g.F.Shelf.held c.args.shelf.now) _ c.in-Err.status own c.in-Err.ensures.none holds in
    told_same left (λ bytes. IfSome out (λ written. Comes own All (drawn_on own c.args.seed c.args.turns) bytes left written out c.in-Err.status))
    (λ bytes is. told_same out (λ written. Comes own All (drawn_on own c.args.seed c.args.turns) bytes left written out c.in-Err.status)
    (λ written told. comes-cut own All (drawn_on own c.args.seed c.args.turns) bytes left written out c.in-Err.status cut told))

pub returns-in-Err-clause-complete : goal.returns-in-Err-clause-complete
returns-in-Err-clause-complete g c = λ own holds shelf source sink.
    none-completes own (drawn_on own c.args.seed c.args.turns)
    (drawn-ends c.inputs_arrive.ensures c.args.name.now (g.F.Shelf.held c.args.shelf.now) own holds c.drawn_runs_end.ensures c.args.seed c.args.turns)
    c.args.name.now (g.F.Shelf.held c.args.shelf.now) _
    (g.R.Source.left c.args.input.now) c.in-Err.status c.in-Err.ensures.none
    (run_cut c.one_verdict.ensures c.args.name.now (g.F.Shelf.held c.args.shelf.now) _ c.in-Err.status own c.in-Err.ensures.none holds) shelf

pub returns-in-Err-clause-cause : goal.returns-in-Err-clause-cause
returns-in-Err-clause-cause g c = inl c.in-Err.ensures.none

pub returns-in-Err-clause-refused : goal.returns-in-Err-clause-refused
returns-in-Err-clause-refused g c = λ kind line column has.
    refusal_tells c.one_verdict.ensures c.args.name.now (g.F.Shelf.held c.args.shelf.now) _ c.in-Err.status kind line column c.in-Err.ensures.none has
