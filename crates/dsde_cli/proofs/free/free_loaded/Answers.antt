use Rattle.std.proofs.Common.{◌≡◌, [], ap, subst, ◌∙◌}
use Rattle.std.specs.Prelude.{IfSome}
use Rattle.dsde_run_free.specs.given.run.Reading.{Told, TakesWanted}
use Rattle.dsde_run_free.specs.given.run.Run.{records_in, running}
use Rattle.dsde_cli_status.specs.given.trace.pick_Pick_TheVariants.{All}
use Rattle.dsde_cli.specs.Loaded.{own_of}
use Rattle.dsde_cli.specs.Asked.{drawn_on}
use Rattle.dsde_cli.specs.RunOutcome.{Comes, SaysEnd}
use Rattle.dsde_cli.specs.lemmas.Fronts.{none-taken}
use Rattle.dsde_cli.proofs.free.free_loaded.Goals as goal

pub returns-in-Ok-clause-comes : goal.returns-in-Ok-clause-comes
returns-in-Ok-clause-comes g c =
    let same : c.new.result ≡ own_of c.args.loaded.now = c.new.ensures ∙ ap (λ model. running model c.args.loaded.now.places) c.in-Ok.ensures in
    subst (λ own. IfSome (g.R.Source.left c.args.input.now) (λ bytes. IfSome (g.W.Sink.written c.args.out.now) (λ written.
    Comes own All (drawn_on own c.args.seed c.args.turns) bytes (g.R.Source.left c.run_drawn.new.input) written (g.W.Sink.written c.run_drawn.new.out) c.run_drawn.result)))
    same c.run_drawn.ensures.comes

pub returns-in-Ok-clause-ends : goal.returns-in-Ok-clause-ends
returns-in-Ok-clause-ends g c =
    let same : c.new.result ≡ own_of c.args.loaded.now = c.new.ensures ∙ ap (λ model. running model c.args.loaded.now.places) c.in-Ok.ensures in
    subst (λ own. IfSome (g.R.Source.left c.args.input.now) (λ bytes.
    SaysEnd (drawn_on own c.args.seed c.args.turns (records_in own bytes)).end (g.R.Source.left c.run_drawn.new.input) c.run_drawn.result))
    same c.run_drawn.ensures.ends

pub returns-in-Ok-clause-taken : goal.returns-in-Ok-clause-taken
returns-in-Ok-clause-taken g c =
    let same : c.new.result ≡ own_of c.args.loaded.now = c.new.ensures ∙ ap (λ model. running model c.args.loaded.now.places) c.in-Ok.ensures in
    subst (λ own. Told (g.R.Source.left c.args.input.now) (g.R.Source.left c.run_drawn.new.input) (λ before.
    TakesWanted (drawn_on own c.args.seed c.args.turns) (records_in own before) [] before))
    same c.run_drawn.ensures.taken

pub returns-in-Err-clause-taken : goal.returns-in-Err-clause-taken
returns-in-Err-clause-taken g c =
    none-taken (drawn_on (own_of c.args.loaded.now) c.args.seed c.args.turns) (records_in (own_of c.args.loaded.now)) (g.R.Source.left c.args.input.now)
