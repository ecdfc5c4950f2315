use Rattle.std.proofs.Common.{Some, [], sym, subst}
use Rattle.dsde_cli.specs.Big.{IsOfSummary}
use Rattle.dsde_cli.specs.RunOutcome.{SaysEnd}
use Rattle.dsde_cli.proofs.Drawing.{of-summary, says-own, summary-written}
use Rattle.dsde_cli.proofs.big.write_told.Goals as goal

pub returns-in-Ok-clause-summarizes : goal.returns-in-Ok-clause-summarizes
returns-in-Ok-clause-summarizes g c =
    summary-written c.args.told.how c.args.told.text c.as_slice.result.now (g.W.Sink.written c.args.out.now) (g.W.Sink.written c.write_all.new.sink) c.status_by.result
    c.requires c.in-Ok.ensures.gained c.as_slice.ensures c.status_by.ensures

pub returns-in-Ok-clause-ends : goal.returns-in-Ok-clause-ends
returns-in-Ok-clause-ends g c = subst (SaysEnd (Some c.args.told.how) (Some [])) (sym c.status_by.ensures) (says-own c.args.told.how c.requires)

pub returns-in-Ok-clause-cause : goal.returns-in-Ok-clause-cause
returns-in-Ok-clause-cause g c = subst (IsOfSummary _) (sym c.status_by.ensures) (of-summary _ c.args.told.how c.requires)
