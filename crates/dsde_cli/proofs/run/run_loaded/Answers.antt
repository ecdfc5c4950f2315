use Rattle.std.proofs.Common.{◌≡◌, [], refl, ap, subst, ◌∙◌}
use Rattle.std.specs.Prelude.{IfSome}
use Rattle.dsde_run_free.specs.given.run.Reading.{Told, TakesWanted}
use Rattle.dsde_run_free.specs.given.run.Run.{records_in, running}
use Rattle.dsde_run_free.specs.given.run.SavedRuns.{image_left}
use Rattle.dsde_cli_command.specs.Commands.{run_asked}
use Rattle.dsde_cli.specs.Asked.{pick_of, tells_on}
use Rattle.dsde_cli.specs.RunOutcome.{Comes, SaysEnd}
use Rattle.dsde_cli.specs.Saved.{Stores}
use Rattle.dsde_cli_status.specs.declared.status.Status.TheVariants.{Done}
use Rattle.dsde_cli.specs.Loaded.{own_of}
use Rattle.dsde_cli.specs.lemmas.Fronts.{none-taken}
use Rattle.dsde_cli.proofs.Loads.{leaves-memory}
use Rattle.dsde_cli.proofs.run.run_loaded.Goals as goal

pub returns-in-Ok-clause-comes : goal.returns-in-Ok-clause-comes
returns-in-Ok-clause-comes g c =
    let same : c.new.result ≡ own_of c.args.loaded.now = c.new.ensures ∙ ap (λ model. running model c.args.loaded.now.places) c.in-Ok.ensures in
    subst (λ own. IfSome (g.R.Source.left c.args.input.now) (λ bytes. IfSome (g.W.Sink.written c.args.out.now) (λ written.
    Comes own (pick_of c.args.run.now.only) (tells_on own (run_asked c.args.run.now)) bytes (g.R.Source.left c.run_and_store.new.input) written (g.W.Sink.written c.run_and_store.new.out) c.run_and_store.result)))
    same c.run_and_store.ensures.comes

pub returns-in-Ok-clause-ends : goal.returns-in-Ok-clause-ends
returns-in-Ok-clause-ends g c =
    let same : c.new.result ≡ own_of c.args.loaded.now = c.new.ensures ∙ ap (λ model. running model c.args.loaded.now.places) c.in-Ok.ensures in
    subst (λ own. IfSome (g.R.Source.left c.args.input.now) (λ bytes.
    SaysEnd (tells_on own (run_asked c.args.run.now) (records_in own bytes)).end (g.R.Source.left c.run_and_store.new.input) c.run_and_store.result))
    same c.run_and_store.ensures.ends

pub returns-in-Ok-clause-stored : goal.returns-in-Ok-clause-stored
returns-in-Ok-clause-stored g c =
    let same : c.new.result ≡ own_of c.args.loaded.now = c.new.ensures ∙ ap (λ model. running model c.args.loaded.now.places) c.in-Ok.ensures in
    subst (λ own. c.run_and_store.result ≡ Done → IfSome (g.R.Source.left c.args.input.now) (λ bytes.
    Stores (run_asked c.args.run.now).save (image_left own.model (tells_on own (run_asked c.args.run.now) (records_in own bytes))) (g.F.Shelf.held c.run_and_store.new.shelf)))
    same c.run_and_store.ensures.stored

pub returns-in-Ok-clause-taken : goal.returns-in-Ok-clause-taken
returns-in-Ok-clause-taken g c =
    let same : c.new.result ≡ own_of c.args.loaded.now = c.new.ensures ∙ ap (λ model. running model c.args.loaded.now.places) c.in-Ok.ensures in
    subst (λ own. Told (g.R.Source.left c.args.input.now) (g.R.Source.left c.run_and_store.new.input) (λ before.
    TakesWanted (tells_on own (run_asked c.args.run.now)) (records_in own before) [] before))
    same c.run_and_store.ensures.taken

pub returns-in-Err-clause-taken : goal.returns-in-Err-clause-taken
returns-in-Err-clause-taken g c =
    none-taken (tells_on (own_of c.args.loaded.now) (run_asked c.args.run.now)) (records_in (own_of c.args.loaded.now)) (g.R.Source.left c.args.input.now)

pub returns-in-Err-clause-kept : goal.returns-in-Err-clause-kept
returns-in-Err-clause-kept g c = leaves-memory (run_asked c.args.run.now).save (g.F.Shelf.held c.args.shelf.now) (g.F.Shelf.held c.args.shelf.now) _ refl
