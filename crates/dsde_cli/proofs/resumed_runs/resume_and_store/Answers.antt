use Rattle.std.proofs.Common.{◌≡◌, [], inl, inr, subst, ap}
use Rattle.std.specs.Prelude.{IfSome}
use Rattle.dsde_run_free.specs.given.sim_working.Working.{Working}
use Rattle.dsde_run_free.specs.given.run.Reading.{Told, TakesWanted}
use Rattle.dsde_run_free.specs.given.run.Resumed.{records_for, resumed, resumed_on}
use Rattle.dsde_run_free.specs.given.run.SavedRuns.{image_left}
use Rattle.dsde_cli_command.specs.Commands.{run_asked}
use Rattle.dsde_cli.specs.Asked.{pick_of}
use Rattle.dsde_cli.specs.Back.{ComesBack, SaysBack}
use Rattle.dsde_cli.specs.Saved.{Stores}
use Rattle.dsde_cli_status.specs.declared.status.Status.TheVariants.{Done}
use Rattle.dsde_cli.specs.lemmas.Fronts.{none-taken}
use Rattle.dsde_cli.specs.lemmas.Later.{back-later, leaves-later, rose-later}
use Rattle.dsde_cli.proofs.Fitting.{never-none}
use Rattle.dsde_cli.proofs.Returning.{back-unloaded, done_is_no_cut, leaves-unloaded, made-cut, made-of, not-before, says-unloaded}
use Rattle.dsde_cli.proofs.resumed_runs.resume_and_store.Goals as goal

pub returns-in-Ok-clause-comes : goal.returns-in-Ok-clause-comes
returns-in-Ok-clause-comes g c = λ engine has.
    subst (λ engine. IfSome (g.R.Source.left c.args.input.now) (λ bytes. IfSome (g.W.Sink.written c.args.out.now) (λ written. ComesBack c.args.own.now (pick_of c.args.run.now.only) c.args.run.now.turns engine bytes (g.R.Source.left c.resume_loaded.new.input) written (g.W.Sink.written c.resume_loaded.new.out) c.resume_loaded.result)))
    (ap (λ (own : Working). own.engine) ((rw c.program.ensures at c.in-Ok.ensures.only) engine has)) c.resume_loaded.ensures.comes

pub returns-in-Ok-clause-ends : goal.returns-in-Ok-clause-ends
returns-in-Ok-clause-ends g c = λ engine has.
    subst (λ engine. IfSome (g.R.Source.left c.args.input.now) (λ bytes. SaysBack c.args.own.now c.args.run.now.turns engine bytes (g.R.Source.left c.resume_loaded.new.input) c.resume_loaded.result))
    (ap (λ (own : Working). own.engine) ((rw c.program.ensures at c.in-Ok.ensures.only) engine has)) c.resume_loaded.ensures.ends

pub returns-in-Ok-clause-stored : goal.returns-in-Ok-clause-stored
returns-in-Ok-clause-stored g c = λ engine has.
    subst (λ engine. c.resume_loaded.result ≡ Done → IfSome (g.R.Source.left c.args.input.now) (λ bytes. Stores (run_asked c.args.run.now).save (image_left c.args.own.now.model (resumed c.args.own.now bytes c.args.run.now.turns engine)) (g.F.Shelf.held c.resume_loaded.new.shelf)))
    (ap (λ (own : Working). own.engine) ((rw c.program.ensures at c.in-Ok.ensures.only) engine has)) c.resume_loaded.ensures.stored

pub returns-in-Ok-clause-taken : goal.returns-in-Ok-clause-taken
returns-in-Ok-clause-taken g c = λ engine has.
    subst (λ engine. Told (g.R.Source.left c.args.input.now) (g.R.Source.left c.resume_loaded.new.input) (λ before. TakesWanted (resumed_on c.args.own.now c.args.run.now.turns engine) (records_for c.args.own.now engine before) [] before))
    (ap (λ (own : Working). own.engine) ((rw c.program.ensures at c.in-Ok.ensures.only) engine has)) c.resume_loaded.ensures.taken

pub returns-in-Ok-clause-cause : goal.returns-in-Ok-clause-cause
returns-in-Ok-clause-cause g c = inr ((rw c.program.ensures at c.in-Ok.ensures.restored), back-later (run_asked c.args.run.now).save _ _ _ _ c.resume_loaded.result (rose-later (g.F.Shelf.faults c.args.shelf.now) (g.F.Shelf.faults c.load_engine.new.shelf) (g.F.Shelf.faults c.resume_loaded.new.shelf) c.load_engine.ensures.counted) c.resume_loaded.ensures.cause)

pub returns-in-Ok-clause-made : goal.returns-in-Ok-clause-made
returns-in-Ok-clause-made g c = λ engine has. made-of (run_asked c.args.run.now).save _ _ _ c.resume_loaded.result (back-later (run_asked c.args.run.now).save _ _ _ _ c.resume_loaded.result (rose-later (g.F.Shelf.faults c.args.shelf.now) (g.F.Shelf.faults c.load_engine.new.shelf) (g.F.Shelf.faults c.resume_loaded.new.shelf) c.load_engine.ensures.counted) c.resume_loaded.ensures.cause)

pub returns-in-Ok-clause-refused : goal.returns-in-Ok-clause-refused
returns-in-Ok-clause-refused g c = λ fault has. absurd ((rw c.program.ensures at c.in-Ok.ensures.refused) fault has)

pub returns-in-Ok-clause-unrun : goal.returns-in-Ok-clause-unrun
returns-in-Ok-clause-unrun g c = λ none. absurd (never-none c.args.own.now.model c.args.file.now (g.F.Shelf.held c.args.shelf.now) (rw c.program.ensures at c.in-Ok.ensures.restored) none)

pub returns-in-Ok-clause-untouched : goal.returns-in-Ok-clause-untouched
returns-in-Ok-clause-untouched g c = λ before. absurd (not-before (run_asked c.args.run.now).save _ _ _ c.resume_loaded.result c.resume_loaded.ensures.cause before)

pub returns-in-Ok-clause-kept : goal.returns-in-Ok-clause-kept
returns-in-Ok-clause-kept g c = leaves-later (run_asked c.args.run.now).save _ _ (g.F.Shelf.held c.args.shelf.now) (g.F.Shelf.held c.load_engine.new.shelf) (g.F.Shelf.held c.resume_loaded.new.shelf) c.resume_loaded.result c.load_engine.ensures.kept (rose-later (g.F.Shelf.faults c.args.shelf.now) (g.F.Shelf.faults c.load_engine.new.shelf) (g.F.Shelf.faults c.resume_loaded.new.shelf) c.load_engine.ensures.counted) c.resume_loaded.ensures.kept

pub returns-in-Err-clause-comes : goal.returns-in-Err-clause-comes
returns-in-Err-clause-comes g c = λ engine has. back-unloaded c.args.own.now (pick_of c.args.run.now.only) c.args.run.now.turns engine (g.R.Source.left c.args.input.now) (g.W.Sink.written c.args.out.now) c.in-Err.status ((rw c.program.ensures at c.in-Err.ensures.cut) engine has)

pub returns-in-Err-clause-ends : goal.returns-in-Err-clause-ends
returns-in-Err-clause-ends g c = λ engine has. says-unloaded c.args.own.now (pick_of c.args.run.now.only) c.args.run.now.turns engine (g.R.Source.left c.args.input.now) c.in-Err.status ((rw c.program.ensures at c.in-Err.ensures.cut) engine has)

pub returns-in-Err-clause-stored : goal.returns-in-Err-clause-stored
returns-in-Err-clause-stored g c = λ engine has well. absurd (done_is_no_cut c.in-Err.status well ((rw c.program.ensures at c.in-Err.ensures.cut) engine has))

pub returns-in-Err-clause-taken : goal.returns-in-Err-clause-taken
returns-in-Err-clause-taken g c = λ engine has. none-taken (resumed_on c.args.own.now c.args.run.now.turns engine) (records_for c.args.own.now engine) (g.R.Source.left c.args.input.now)

pub returns-in-Err-clause-cause : goal.returns-in-Err-clause-cause
returns-in-Err-clause-cause g c = inl (rw c.program.ensures at c.in-Err.ensures.none)

pub returns-in-Err-clause-made : goal.returns-in-Err-clause-made
returns-in-Err-clause-made g c = λ engine has. made-cut (run_asked c.args.run.now).save c.args.own.now.model c.args.file.now (g.F.Shelf.held c.args.shelf.now) _ _ _ c.in-Err.status (rw c.program.ensures at c.in-Err.ensures.none) ((rw c.program.ensures at c.in-Err.ensures.cut) engine has)

pub returns-in-Err-clause-refused : goal.returns-in-Err-clause-refused
returns-in-Err-clause-refused g c = λ fault has. (rw c.program.ensures at c.in-Err.ensures.refused) fault has

pub returns-in-Err-clause-kept : goal.returns-in-Err-clause-kept
returns-in-Err-clause-kept g c = leaves-unloaded (run_asked c.args.run.now).save c.args.own.now.model c.args.file.now (g.F.Shelf.held c.args.shelf.now) (g.F.Shelf.held c.load_engine.new.shelf) _ c.in-Err.status c.load_engine.ensures.kept (rw c.program.ensures at c.in-Err.ensures.none)
