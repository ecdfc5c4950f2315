use Rattle.std.proofs.Common.{◌≡◌, ℕ, [], sym, subst, rules}
use Rattle.std.specs.Prelude.{IfSome}
use Rattle.dsde_io.specs.Fault.{Rose}
use Rattle.dsde_run_free.specs.given.run.Reading.{Told, TakesWanted}
use Rattle.dsde_run_free.specs.given.run.Run.{records_in}
use Rattle.dsde_cli_status.specs.given.trace.pick_Pick_TheVariants.{All}
use Rattle.dsde_cli.specs.Asked.{drawn_on}
use Rattle.dsde_cli.specs.RunOutcome.{ComesOn, IsOfRun, SaysEnd, status_by}
use Rattle.dsde_cli_status.specs.declared.status.Status.{Status}
use Rattle.dsde_cli.proofs.CliComing.{comes-told, ends-told, of-run}
use Rattle.dsde_cli.proofs.drawn_runs.run_drawn.Goals as goal

pub returns-clause-comes : goal.returns-clause-comes
returns-clause-comes g c =
    let seed : c.from.result ≡ c.args.seed = search rules in
    let told = comes-told c.args.own.now All (drawn_on c.args.own.now c.from.result c.args.turns) (records_in c.args.own.now) (g.R.Source.left c.args.input.now) (g.R.Source.left c.run_free-answer.new.source) (g.W.Sink.written c.args.out.now) (g.W.Sink.written c.run_free-answer.new.sink)
    c.run_free-answer.result c.run_free-answer.ensures.comes c.run_free-answer.ensures.quiet in
    subst (λ (status : Status). IfSome (g.R.Source.left c.args.input.now) (λ bytes. IfSome (g.W.Sink.written c.args.out.now) (λ written. ComesOn c.args.own.now All (drawn_on c.args.own.now c.args.seed c.args.turns) (records_in c.args.own.now bytes) bytes (g.R.Source.left c.run_free-answer.new.source) written (g.W.Sink.written c.run_free-answer.new.sink) status)))
    (sym c.status_by.ensures)
    (subst (λ (seed : ℕ). IfSome (g.R.Source.left c.args.input.now) (λ bytes. IfSome (g.W.Sink.written c.args.out.now) (λ written. ComesOn c.args.own.now All (drawn_on c.args.own.now seed c.args.turns) (records_in c.args.own.now bytes) bytes (g.R.Source.left c.run_free-answer.new.source) written (g.W.Sink.written c.run_free-answer.new.sink) (status_by c.run_free-answer.result))))
    seed told)

pub returns-clause-ends : goal.returns-clause-ends
returns-clause-ends g c =
    let seed : c.from.result ≡ c.args.seed = search rules in
    let told = ends-told c.args.own.now All (drawn_on c.args.own.now c.from.result c.args.turns) (records_in c.args.own.now) (g.R.Source.left c.args.input.now) (g.R.Source.left c.run_free-answer.new.source) (g.W.Sink.written c.args.out.now) (g.W.Sink.written c.run_free-answer.new.sink)
    c.run_free-answer.result c.run_free-answer.ensures.comes c.run_free-answer.ensures.quiet in
    subst (λ (status : Status). IfSome (g.R.Source.left c.args.input.now) (λ bytes. SaysEnd (drawn_on c.args.own.now c.args.seed c.args.turns (records_in c.args.own.now bytes)).end (g.R.Source.left c.run_free-answer.new.source) status))
    (sym c.status_by.ensures)
    (subst (λ (seed : ℕ). IfSome (g.R.Source.left c.args.input.now) (λ bytes. SaysEnd (drawn_on c.args.own.now seed c.args.turns (records_in c.args.own.now bytes)).end (g.R.Source.left c.run_free-answer.new.source) (status_by c.run_free-answer.result)))
    seed told)

pub returns-clause-taken : goal.returns-clause-taken
returns-clause-taken g c =
    let seed : c.from.result ≡ c.args.seed = search rules in
    subst (λ (seed : ℕ). Told (g.R.Source.left c.args.input.now) (g.R.Source.left c.run_free-answer.new.source) (λ before.
    TakesWanted (drawn_on c.args.own.now seed c.args.turns) (records_in c.args.own.now before) [] before)) seed c.run_free-answer.ensures.taken

pub returns-clause-cause : goal.returns-clause-cause
returns-clause-cause g c =
    subst (IsOfRun (Rose (g.R.Source.faults c.args.input.now) (g.R.Source.faults c.run_free-answer.new.source)) (Rose (g.W.Sink.faults c.args.out.now) (g.W.Sink.faults c.run_free-answer.new.sink))) (sym c.status_by.ensures)
    (of-run _ _ c.run_free-answer.result c.run_free-answer.ensures.unread c.run_free-answer.ensures.unwritten)
