use Rattle.std.proofs.Common.{◌≡◌, Some, [], ap, subst, ◌∙◌}
use Rattle.std.specs.Prelude.{IfSome}
use Rattle.dsde_run_free.specs.given.run.Run.{running}
use Rattle.dsde_run_free.specs.given.run.Counting.{summary_text}
use Rattle.dsde_cli.specs.Big.{Summarizes, big_run}
use Rattle.dsde_cli.specs.Loaded.{own_of}
use Rattle.dsde_cli.specs.RunOutcome.{SaysEnd}
use Rattle.dsde_cli.proofs.big.run_loaded.Goals as goal

pub returns-in-Ok-clause-summarizes : goal.returns-in-Ok-clause-summarizes
returns-in-Ok-clause-summarizes g c =
    let same : c.new.result ≡ own_of c.args.loaded.now = c.new.ensures ∙ ap (λ model. running model c.args.loaded.now.places) c.in-Ok.ensures in
    subst (λ own. IfSome (g.W.Sink.written c.args.out.now) (λ written. Summarizes (summary_text own (big_run own c.args.turns)) written (g.W.Sink.written c.write_summary.new.out) c.write_summary.result))
    same c.write_summary.ensures.summarizes

pub returns-in-Ok-clause-ends : goal.returns-in-Ok-clause-ends
returns-in-Ok-clause-ends g c =
    let same : c.new.result ≡ own_of c.args.loaded.now = c.new.ensures ∙ ap (λ model. running model c.args.loaded.now.places) c.in-Ok.ensures in
    subst (λ own. SaysEnd (big_run own c.args.turns).end (Some []) c.write_summary.result) same c.write_summary.ensures.ends
