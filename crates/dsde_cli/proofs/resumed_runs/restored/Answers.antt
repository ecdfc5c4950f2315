use Rattle.std.proofs.Common.{◌≡◌, Err, sym, subst, ap}
use Rattle.dsde_cli_status.specs.declared.status.Status.{Status}
use Rattle.dsde_cli_status.specs.declared.status.Status.TheVariants.{Memory}
use Rattle.dsde_cli.specs.Back.{NoneRestored, TellsSave}
use Rattle.dsde_cli.proofs.Fitting.{none-restored, ready-of, refused-ok, refused-told, restored-cut, restored-only}
use Rattle.dsde_cli.proofs.resumed_runs.restored.Goals as goal

pub returns-in-Ok-clause-ready : goal.returns-in-Ok-clause-ready
returns-in-Ok-clause-ready c = ready-of c.args.program.now c.args.bytes.now c.in-Ok.core c.in-Ok.ensures.restored c.in-Ok.ensures.born

pub returns-in-Ok-clause-only : goal.returns-in-Ok-clause-only
returns-in-Ok-clause-only c = restored-only c.args.program.now c.args.bytes.now c.in-Ok.core c.in-Ok.ensures.exact

pub returns-in-Ok-clause-refused : goal.returns-in-Ok-clause-refused
returns-in-Ok-clause-refused c = refused-ok c.args.program.now c.args.bytes.now c.in-Ok.core c.in-Ok.ensures.exact c.in-Ok.ensures.restored

pub returns-in-Err-clause-none : goal.returns-in-Err-clause-none
returns-in-Err-clause-none c =
    subst (NoneRestored c.args.program.now c.args.bytes.now) (sym c.unrestored.ensures)
    (none-restored c.args.program.now c.args.bytes.now c.in-Err.why (λ is. c.in-Err.ensures.not_json (ap Err is)) (λ is. c.in-Err.ensures.wrong_form (ap Err is)) c.in-Err.ensures.misfit)

pub returns-in-Err-clause-cut : goal.returns-in-Err-clause-cut
returns-in-Err-clause-cut c = λ engine is. subst (λ (status : Status). status ≡ Memory) (sym c.unrestored.ensures) (restored-cut c.args.program.now c.args.bytes.now c.in-Err.why c.in-Err.ensures.exact engine is)

pub returns-in-Err-clause-refused : goal.returns-in-Err-clause-refused
returns-in-Err-clause-refused c = λ fault refuses.
    subst (TellsSave fault) (sym c.unrestored.ensures)
    (refused-told c.args.program.now c.args.bytes.now c.in-Err.why (λ is. c.in-Err.ensures.not_json (ap Err is)) (λ is. c.in-Err.ensures.wrong_form (ap Err is)) c.in-Err.ensures.misfit c.in-Err.ensures.exact fault refuses)
