use Rattle.std.proofs.Common.{◌≡◌, [], inl, inr, sym, subst}
use Rattle.std.specs.Prelude.{IfSome}
use Rattle.dsde_sim_tree.specs.Engine.{Engine}
use Rattle.dsde_io.specs.Fault.{Rose}
use Rattle.dsde_run_free.specs.given.run.Reading.{Told, TakesWanted}
use Rattle.dsde_run_free.specs.given.run.Run.{Running}
use Rattle.dsde_run_free.specs.given.run.Resumed.{records_for, resumed, resumed_on}
use Rattle.dsde_run_free.specs.given.run.SavedRuns.{image_left}
use Rattle.dsde_cli_command.specs.Commands.{run_asked}
use Rattle.dsde_cli.specs.Asked.{pick_of}
use Rattle.dsde_cli.specs.Back.{ComesBack, IsMade, IsRefusedFor, NoneSaved, Restores, SaysBack}
use Rattle.dsde_cli.specs.Loads.{Has}
use Rattle.dsde_cli.specs.Saved.{Stores}
use Rattle.dsde_cli_status.specs.declared.status.Status.TheVariants.{Done}
use Rattle.dsde_cli_status.specs.given.cli_verdict.Verdict.{Refuses}
use Rattle.dsde_cli.specs.Loaded.{own_of}
use Rattle.dsde_cli.proofs.Completing.{back-made, cut-memory}
use Rattle.dsde_cli.specs.lemmas.Fronts.{none-taken}
use Rattle.dsde_cli.specs.lemmas.Later.{leaves-later, rose-later}
use Rattle.dsde_cli.proofs.Later.{before-back, cause-later, made-later, taken-up-cause}
use Rattle.dsde_cli.proofs.Loads.{back-unloaded, done_is_no_cut, leaves-unloaded, never-none, refusal_tells, run_cut, run_unrefused, says-unloaded, tells-cut}
use Rattle.dsde_cli.proofs.resume.load_and_resume.Goals as goal

pub returns-in-Ok-clause-resumes : goal.returns-in-Ok-clause-resumes
returns-in-Ok-clause-resumes g c = λ own holds.
    subst (λ (own : Running). (engine : Engine) → Has c.args.file.now (g.F.Shelf.held c.args.shelf.now) (Restores own.model engine) → IfSome (g.R.Source.left c.args.input.now) (λ bytes. IfSome (g.W.Sink.written c.args.out.now) (λ written.
    ComesBack own (pick_of c.args.run.now.only) c.args.run.now.turns engine bytes (g.R.Source.left c.resume_loaded.new.input) written (g.W.Sink.written c.resume_loaded.new.out) c.resume_loaded.result)))
    (sym (c.in-Ok.ensures.only own holds))
    (λ engine has. c.resume_loaded.ensures.resumes engine (subst (λ held. Has c.args.file.now held (Restores (own_of c.in-Ok.loaded).model engine)) (sym c.load_runnable.ensures.kept) has))

pub returns-in-Ok-clause-ends : goal.returns-in-Ok-clause-ends
returns-in-Ok-clause-ends g c = λ own holds.
    subst (λ (own : Running). (engine : Engine) → Has c.args.file.now (g.F.Shelf.held c.args.shelf.now) (Restores own.model engine) → IfSome (g.R.Source.left c.args.input.now) (λ bytes. SaysBack own c.args.run.now.turns engine bytes (g.R.Source.left c.resume_loaded.new.input) c.resume_loaded.result))
    (sym (c.in-Ok.ensures.only own holds))
    (λ engine has. c.resume_loaded.ensures.ends engine (subst (λ held. Has c.args.file.now held (Restores (own_of c.in-Ok.loaded).model engine)) (sym c.load_runnable.ensures.kept) has))

pub returns-in-Ok-clause-stored : goal.returns-in-Ok-clause-stored
returns-in-Ok-clause-stored g c = λ own holds.
    subst (λ (own : Running). (engine : Engine) → Has c.args.file.now (g.F.Shelf.held c.args.shelf.now) (Restores own.model engine) → c.resume_loaded.result ≡ Done → IfSome (g.R.Source.left c.args.input.now) (λ bytes.
    Stores (run_asked c.args.run.now).save (image_left own.model (resumed own bytes c.args.run.now.turns engine)) (g.F.Shelf.held c.resume_loaded.new.shelf)))
    (sym (c.in-Ok.ensures.only own holds))
    (λ engine has. c.resume_loaded.ensures.stored engine (subst (λ held. Has c.args.file.now held (Restores (own_of c.in-Ok.loaded).model engine)) (sym c.load_runnable.ensures.kept) has))

pub returns-in-Ok-clause-taken : goal.returns-in-Ok-clause-taken
returns-in-Ok-clause-taken g c = λ own holds.
    subst (λ (own : Running). (engine : Engine) → Has c.args.file.now (g.F.Shelf.held c.args.shelf.now) (Restores own.model engine) → Told (g.R.Source.left c.args.input.now) (g.R.Source.left c.resume_loaded.new.input) (λ before.
    TakesWanted (resumed_on own c.args.run.now.turns engine) (records_for own engine before) [] before))
    (sym (c.in-Ok.ensures.only own holds))
    (λ engine has. c.resume_loaded.ensures.taken engine (subst (λ held. Has c.args.file.now held (Restores (own_of c.in-Ok.loaded).model engine)) (sym c.load_runnable.ensures.kept) has))

pub returns-in-Ok-clause-complete : goal.returns-in-Ok-clause-complete
returns-in-Ok-clause-complete g c = λ own holds engine has shelf source sink.
    let here = subst (λ held. Has c.args.file.now held (Restores own.model engine)) (sym c.load_runnable.ensures.kept) has in
    let is = c.in-Ok.ensures.only own holds in
    let made : IsMade (run_asked c.args.run.now).save (Rose (g.F.Shelf.faults c.load_runnable.new.shelf) (g.F.Shelf.faults c.resume_loaded.new.shelf)) _ _ c.resume_loaded.result =
    c.resume_loaded.ensures.made engine (subst (λ (own : Running). Has c.args.file.now (g.F.Shelf.held c.load_runnable.new.shelf) (Restores own.model engine)) is here) in
    let says = subst (λ (own : Running). Has c.args.file.now (g.F.Shelf.held c.load_runnable.new.shelf) (Restores own.model engine) → IfSome (g.R.Source.left c.args.input.now) (λ bytes. SaysBack own c.args.run.now.turns engine bytes (g.R.Source.left c.resume_loaded.new.input) c.resume_loaded.result)) (sym is) (c.resume_loaded.ensures.ends engine) here in
    back-made own c.args.run.now.turns engine (run_asked c.args.run.now).save _ _ _ (g.R.Source.left c.args.input.now) (g.R.Source.left c.resume_loaded.new.input) c.resume_loaded.result
    (made-later (run_asked c.args.run.now).save _ _ _ _ c.resume_loaded.result (rose-later (g.F.Shelf.faults c.args.shelf.now) (g.F.Shelf.faults c.load_runnable.new.shelf) (g.F.Shelf.faults c.resume_loaded.new.shelf) c.load_runnable.ensures.counted) made) says shelf source sink

pub returns-in-Ok-clause-cause : goal.returns-in-Ok-clause-cause
returns-in-Ok-clause-cause g c =
    inr (taken-up-cause c.args.run.now.model.now c.args.file.now (run_asked c.args.run.now).save (g.F.Shelf.held c.args.shelf.now) _ _ _ c.resume_loaded.result (own_of c.in-Ok.loaded) c.in-Ok.ensures.runs c.in-Ok.ensures.only
    (cause-later (own_of c.in-Ok.loaded).model c.args.file.now (run_asked c.args.run.now).save (g.F.Shelf.held c.args.shelf.now) (g.F.Shelf.held c.load_runnable.new.shelf) _ _ _ _ c.resume_loaded.result c.load_runnable.ensures.kept
    (rose-later (g.F.Shelf.faults c.args.shelf.now) (g.F.Shelf.faults c.load_runnable.new.shelf) (g.F.Shelf.faults c.resume_loaded.new.shelf) c.load_runnable.ensures.counted) c.resume_loaded.ensures.cause))

pub returns-in-Ok-clause-refused : goal.returns-in-Ok-clause-refused
returns-in-Ok-clause-refused g c = λ kind line column has.
    absurd (run_unrefused c.one_verdict.ensures c.args.run.now.model.now (g.F.Shelf.held c.args.shelf.now) kind line column c.in-Ok.ensures.runs has)

pub returns-in-Ok-clause-refused_save : goal.returns-in-Ok-clause-refused_save
returns-in-Ok-clause-refused_save g c = λ own holds fault has.
    let here = subst (λ held. Has c.args.file.now held (IsRefusedFor own.model fault)) (sym c.load_runnable.ensures.kept) has in
    c.resume_loaded.ensures.refused fault (subst (λ (own : Running). Has c.args.file.now (g.F.Shelf.held c.load_runnable.new.shelf) (IsRefusedFor own.model fault)) (c.in-Ok.ensures.only own holds) here)

pub returns-in-Ok-clause-unrun : goal.returns-in-Ok-clause-unrun
returns-in-Ok-clause-unrun g c = λ none. absurd (never-none c.args.run.now.model.now (g.F.Shelf.held c.args.shelf.now) c.in-Ok.ensures.runs none)

pub returns-in-Ok-clause-unresumed : goal.returns-in-Ok-clause-unresumed
returns-in-Ok-clause-unresumed g c = λ own holds none.
    let here = subst (λ held. NoneSaved own.model c.args.file.now held) (sym c.load_runnable.ensures.kept) none in
    c.resume_loaded.ensures.unresumed (subst (λ (own : Running). NoneSaved own.model c.args.file.now (g.F.Shelf.held c.load_runnable.new.shelf)) (c.in-Ok.ensures.only own holds) here)

pub returns-in-Ok-clause-untouched : goal.returns-in-Ok-clause-untouched
returns-in-Ok-clause-untouched g c = λ before.
    c.resume_loaded.ensures.untouched (before-back (own_of c.in-Ok.loaded).model c.args.file.now (run_asked c.args.run.now).save (g.F.Shelf.held c.load_runnable.new.shelf) _ _ _ c.resume_loaded.result c.resume_loaded.ensures.cause before)

pub returns-in-Ok-clause-kept : goal.returns-in-Ok-clause-kept
returns-in-Ok-clause-kept g c =
    leaves-later (run_asked c.args.run.now).save _ _ (g.F.Shelf.held c.args.shelf.now) (g.F.Shelf.held c.load_runnable.new.shelf) (g.F.Shelf.held c.resume_loaded.new.shelf) c.resume_loaded.result c.load_runnable.ensures.kept
    (rose-later (g.F.Shelf.faults c.args.shelf.now) (g.F.Shelf.faults c.load_runnable.new.shelf) (g.F.Shelf.faults c.resume_loaded.new.shelf) c.load_runnable.ensures.counted) c.resume_loaded.ensures.kept

pub returns-in-Err-clause-resumes : goal.returns-in-Err-clause-resumes
returns-in-Err-clause-resumes g c = λ own holds engine has.
    back-unloaded own (pick_of c.args.run.now.only) c.args.run.now.turns engine (g.R.Source.left c.args.input.now) (g.W.Sink.written c.args.out.now) c.in-Err.status (run_cut c.one_verdict.ensures c.args.run.now.model.now (g.F.Shelf.held c.args.shelf.now) _ c.in-Err.status own c.in-Err.ensures.none holds)

pub returns-in-Err-clause-ends : goal.returns-in-Err-clause-ends
returns-in-Err-clause-ends g c = λ own holds engine has.
    says-unloaded own c.args.run.now.turns engine (g.R.Source.left c.args.input.now) c.in-Err.status (run_cut c.one_verdict.ensures c.args.run.now.model.now (g.F.Shelf.held c.args.shelf.now) _ c.in-Err.status own c.in-Err.ensures.none holds)

pub returns-in-Err-clause-stored : goal.returns-in-Err-clause-stored
returns-in-Err-clause-stored g c = λ own holds engine has well. absurd (done_is_no_cut c.in-Err.status well (run_cut c.one_verdict.ensures c.args.run.now.model.now (g.F.Shelf.held c.args.shelf.now) _ c.in-Err.status own c.in-Err.ensures.none holds))

pub returns-in-Err-clause-complete : goal.returns-in-Err-clause-complete
returns-in-Err-clause-complete g c = λ own holds engine has shelf source sink.
    inr (inr (cut-memory c.args.run.now.model.now (g.F.Shelf.held c.args.shelf.now) _ c.in-Err.status c.in-Err.ensures.none (run_cut c.one_verdict.ensures c.args.run.now.model.now (g.F.Shelf.held c.args.shelf.now) _ c.in-Err.status own c.in-Err.ensures.none holds) shelf))

pub returns-in-Err-clause-taken : goal.returns-in-Err-clause-taken
returns-in-Err-clause-taken g c = λ own holds engine has. none-taken (resumed_on own c.args.run.now.turns engine) (records_for own engine) (g.R.Source.left c.args.input.now)

pub returns-in-Err-clause-cause : goal.returns-in-Err-clause-cause
returns-in-Err-clause-cause g c = inl c.in-Err.ensures.none

pub returns-in-Err-clause-refused : goal.returns-in-Err-clause-refused
returns-in-Err-clause-refused g c = λ kind line column has.
    refusal_tells c.one_verdict.ensures c.args.run.now.model.now (g.F.Shelf.held c.args.shelf.now) _ c.in-Err.status kind line column c.in-Err.ensures.none has

pub returns-in-Err-clause-refused_save : goal.returns-in-Err-clause-refused_save
returns-in-Err-clause-refused_save g c = λ own holds fault has. tells-cut fault c.in-Err.status (run_cut c.one_verdict.ensures c.args.run.now.model.now (g.F.Shelf.held c.args.shelf.now) _ c.in-Err.status own c.in-Err.ensures.none holds)

pub returns-in-Err-clause-kept : goal.returns-in-Err-clause-kept
returns-in-Err-clause-kept g c =
    leaves-unloaded Refuses (run_asked c.args.run.now).save c.args.run.now.model.now (g.F.Shelf.held c.args.shelf.now) (g.F.Shelf.held c.load_runnable.new.shelf) _ c.in-Err.status c.load_runnable.ensures.kept c.in-Err.ensures.none
