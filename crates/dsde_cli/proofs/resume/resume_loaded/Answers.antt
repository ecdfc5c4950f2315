use Rattle.std.proofs.Common.{◌≡◌, [], refl, ap, subst, ◌∙◌}
use Rattle.std.specs.Prelude.{IfSome}
use Rattle.dsde_sim_tree.specs.Engine.{Engine}
use Rattle.dsde_io.specs.Fault.{Rose}
use Rattle.dsde_run_free.specs.given.run.Reading.{Told, TakesWanted}
use Rattle.dsde_run_free.specs.given.run.Run.{Running, running}
use Rattle.dsde_run_free.specs.given.run.Resumed.{records_for, resumed, resumed_on}
use Rattle.dsde_run_free.specs.given.run.SavedRuns.{image_left}
use Rattle.dsde_cli_command.specs.Commands.{run_asked}
use Rattle.dsde_cli.specs.Asked.{pick_of}
use Rattle.dsde_cli.specs.Back.{CauseBack, ComesBack, IsMade, IsRefusedFor, NoneSaved, Restores, SaysBack, TellsSave}
use Rattle.dsde_cli.specs.Loads.{Has}
use Rattle.dsde_cli.specs.Saved.{Stores}
use Rattle.dsde_cli_status.specs.declared.status.SaveFault.{SaveFault}
use Rattle.dsde_cli_status.specs.declared.status.Status.TheVariants.{Done}
use Rattle.dsde_cli.specs.Loaded.{own_of}
use Rattle.dsde_cli.specs.lemmas.Fronts.{none-taken}
use Rattle.dsde_cli.proofs.Loads.{leaves-memory}
use Rattle.dsde_cli.proofs.Outcomes.{back-none}
use Rattle.dsde_cli.proofs.resume.resume_loaded.Goals as goal

pub returns-in-Ok-clause-resumes : goal.returns-in-Ok-clause-resumes
returns-in-Ok-clause-resumes g c =
    let same : c.new.result ≡ own_of c.args.loaded.now = c.new.ensures ∙ ap (λ model. running model c.args.loaded.now.places) c.in-Ok.ensures in
    subst (λ own. (engine : Engine) → Has c.args.file.now (g.F.Shelf.held c.args.shelf.now) (Restores own.model engine) → IfSome (g.R.Source.left c.args.input.now) (λ bytes. IfSome (g.W.Sink.written c.args.out.now) (λ written.
    ComesBack own (pick_of c.args.run.now.only) c.args.run.now.turns engine bytes (g.R.Source.left c.resume_and_store.new.input) written (g.W.Sink.written c.resume_and_store.new.out) c.resume_and_store.result)))
    same c.resume_and_store.ensures.comes

pub returns-in-Ok-clause-ends : goal.returns-in-Ok-clause-ends
returns-in-Ok-clause-ends g c =
    let same : c.new.result ≡ own_of c.args.loaded.now = c.new.ensures ∙ ap (λ model. running model c.args.loaded.now.places) c.in-Ok.ensures in
    subst (λ own. (engine : Engine) → Has c.args.file.now (g.F.Shelf.held c.args.shelf.now) (Restores own.model engine) → IfSome (g.R.Source.left c.args.input.now) (λ bytes.
    SaysBack own c.args.run.now.turns engine bytes (g.R.Source.left c.resume_and_store.new.input) c.resume_and_store.result))
    same c.resume_and_store.ensures.ends

pub returns-in-Ok-clause-stored : goal.returns-in-Ok-clause-stored
returns-in-Ok-clause-stored g c =
    let same : c.new.result ≡ own_of c.args.loaded.now = c.new.ensures ∙ ap (λ model. running model c.args.loaded.now.places) c.in-Ok.ensures in
    subst (λ own. (engine : Engine) → Has c.args.file.now (g.F.Shelf.held c.args.shelf.now) (Restores own.model engine) → c.resume_and_store.result ≡ Done → IfSome (g.R.Source.left c.args.input.now) (λ bytes.
    Stores (run_asked c.args.run.now).save (image_left own.model (resumed own bytes c.args.run.now.turns engine)) (g.F.Shelf.held c.resume_and_store.new.shelf)))
    same c.resume_and_store.ensures.stored

pub returns-in-Ok-clause-taken : goal.returns-in-Ok-clause-taken
returns-in-Ok-clause-taken g c =
    let same : c.new.result ≡ own_of c.args.loaded.now = c.new.ensures ∙ ap (λ model. running model c.args.loaded.now.places) c.in-Ok.ensures in
    subst (λ own. (engine : Engine) → Has c.args.file.now (g.F.Shelf.held c.args.shelf.now) (Restores own.model engine) → Told (g.R.Source.left c.args.input.now) (g.R.Source.left c.resume_and_store.new.input) (λ before.
    TakesWanted (resumed_on own c.args.run.now.turns engine) (records_for own engine before) [] before))
    same c.resume_and_store.ensures.taken

pub returns-in-Ok-clause-cause : goal.returns-in-Ok-clause-cause
returns-in-Ok-clause-cause g c =
    let same : c.new.result ≡ own_of c.args.loaded.now = c.new.ensures ∙ ap (λ model. running model c.args.loaded.now.places) c.in-Ok.ensures in
    subst (λ (own : Running). CauseBack own.model c.args.file.now (run_asked c.args.run.now).save (g.F.Shelf.held c.args.shelf.now) (Rose (g.F.Shelf.faults c.args.shelf.now) (g.F.Shelf.faults c.resume_and_store.new.shelf)) (Rose (g.R.Source.faults c.args.input.now) (g.R.Source.faults c.resume_and_store.new.input)) (Rose (g.W.Sink.faults c.args.out.now) (g.W.Sink.faults c.resume_and_store.new.out)) c.resume_and_store.result)
    same c.resume_and_store.ensures.cause

pub returns-in-Ok-clause-made : goal.returns-in-Ok-clause-made
returns-in-Ok-clause-made g c =
    let same : c.new.result ≡ own_of c.args.loaded.now = c.new.ensures ∙ ap (λ model. running model c.args.loaded.now.places) c.in-Ok.ensures in
    subst (λ (own : Running). (engine : Engine) → Has c.args.file.now (g.F.Shelf.held c.args.shelf.now) (Restores own.model engine) →
    IsMade (run_asked c.args.run.now).save (Rose (g.F.Shelf.faults c.args.shelf.now) (g.F.Shelf.faults c.resume_and_store.new.shelf)) (Rose (g.R.Source.faults c.args.input.now) (g.R.Source.faults c.resume_and_store.new.input)) (Rose (g.W.Sink.faults c.args.out.now) (g.W.Sink.faults c.resume_and_store.new.out)) c.resume_and_store.result)
    same c.resume_and_store.ensures.made

pub returns-in-Ok-clause-refused : goal.returns-in-Ok-clause-refused
returns-in-Ok-clause-refused g c =
    let same : c.new.result ≡ own_of c.args.loaded.now = c.new.ensures ∙ ap (λ model. running model c.args.loaded.now.places) c.in-Ok.ensures in
    subst (λ (own : Running). (fault : SaveFault) → Has c.args.file.now (g.F.Shelf.held c.args.shelf.now) (IsRefusedFor own.model fault) → TellsSave fault c.resume_and_store.result)
    same c.resume_and_store.ensures.refused

pub returns-in-Ok-clause-unresumed : goal.returns-in-Ok-clause-unresumed
returns-in-Ok-clause-unresumed g c =
    let same : c.new.result ≡ own_of c.args.loaded.now = c.new.ensures ∙ ap (λ model. running model c.args.loaded.now.places) c.in-Ok.ensures in
    subst (λ (own : Running). NoneSaved own.model c.args.file.now (g.F.Shelf.held c.args.shelf.now) → (c.resume_and_store.new.input ≡ c.args.input.now) × (c.resume_and_store.new.out ≡ c.args.out.now))
    same c.resume_and_store.ensures.unrun

pub returns-in-Err-clause-resumes : goal.returns-in-Err-clause-resumes
returns-in-Err-clause-resumes g c = λ engine has.
    back-none (own_of c.args.loaded.now) (pick_of c.args.run.now.only) c.args.run.now.turns engine (g.R.Source.left c.args.input.now) (g.W.Sink.written c.args.out.now)

pub returns-in-Err-clause-taken : goal.returns-in-Err-clause-taken
returns-in-Err-clause-taken g c = λ engine has.
    none-taken (resumed_on (own_of c.args.loaded.now) c.args.run.now.turns engine) (records_for (own_of c.args.loaded.now) engine) (g.R.Source.left c.args.input.now)

pub returns-in-Err-clause-kept : goal.returns-in-Err-clause-kept
returns-in-Err-clause-kept g c = leaves-memory (run_asked c.args.run.now).save (g.F.Shelf.held c.args.shelf.now) (g.F.Shelf.held c.args.shelf.now) _ refl
