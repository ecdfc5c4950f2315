use Rattle.std.proofs.Common.{Some, [], sym, subst}
use Rattle.std.specs.Prelude.{IfSome}
use Rattle.dsde_cli.specs.Big.{Summarizes}
use Rattle.dsde_cli.specs.RunOutcome.{SaysEnd}
use Rattle.dsde_cli.proofs.big.write_summary.Goals as goal

pub returns-in-Ok-clause-summarizes : goal.returns-in-Ok-clause-summarizes
returns-in-Ok-clause-summarizes g c =
    subst (λ text. IfSome (g.W.Sink.written c.args.out.now) (λ written. Summarizes text written (g.W.Sink.written c.write_told.new.out) c.write_told.result)) c.in-Ok.ensures.text c.write_told.ensures.summarizes

pub returns-in-Ok-clause-ends : goal.returns-in-Ok-clause-ends
returns-in-Ok-clause-ends g c = subst (λ end. SaysEnd end (Some []) c.write_told.result) (sym c.in-Ok.ensures.how) c.write_told.ensures.ends
