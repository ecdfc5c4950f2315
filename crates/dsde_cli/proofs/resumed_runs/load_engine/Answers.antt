use Rattle.std.proofs.Common.{Err, sym, subst, ap}
use Rattle.dsde_io.specs.Fault.{Rose}
use Rattle.dsde_cli.specs.Back.{IsLoadCut, NoSave, TellsSave}
use Rattle.dsde_cli.proofs.Fitting.{end-of, loaded-cut, loaded-none, loaded-only, loaded-refused, loaded-some, unloaded-cut, unloaded-none, unloaded-refused}
use Rattle.dsde_cli.proofs.resumed_runs.load_engine.Goals as goal

pub returns-in-Ok-clause-restored : goal.returns-in-Ok-clause-restored
returns-in-Ok-clause-restored g c = loaded-some c.args.program.now c.args.file.now (g.F.Shelf.held c.args.shelf.now) c.in-Ok.bytes c.in-Ok.ensures.told c.in-Ok.ensures.within c.restored.result (rw c.as_slice.ensures at c.restored.ensures.restored)

pub returns-in-Ok-clause-only : goal.returns-in-Ok-clause-only
returns-in-Ok-clause-only g c = loaded-only c.args.program.now c.args.file.now (g.F.Shelf.held c.args.shelf.now) c.in-Ok.bytes c.in-Ok.ensures.told c.in-Ok.ensures.within c.restored.result (rw c.as_slice.ensures at c.restored.ensures.only)

pub returns-in-Ok-clause-none : goal.returns-in-Ok-clause-none
returns-in-Ok-clause-none g c = loaded-none c.args.program.now c.args.file.now (g.F.Shelf.held c.args.shelf.now) c.in-Ok.bytes c.in-Ok.ensures.told c.in-Ok.ensures.within _ c.restored.result (rw c.as_slice.ensures at c.restored.ensures.none)

pub returns-in-Ok-clause-cut : goal.returns-in-Ok-clause-cut
returns-in-Ok-clause-cut g c = loaded-cut c.args.program.now c.args.file.now (g.F.Shelf.held c.args.shelf.now) c.in-Ok.bytes c.in-Ok.ensures.told c.in-Ok.ensures.within c.restored.result (rw c.as_slice.ensures at c.restored.ensures.cut)

pub returns-in-Ok-clause-refused : goal.returns-in-Ok-clause-refused
returns-in-Ok-clause-refused g c = loaded-refused c.args.program.now c.args.file.now (g.F.Shelf.held c.args.shelf.now) c.in-Ok.bytes c.in-Ok.ensures.told c.in-Ok.ensures.within c.restored.result (rw c.as_slice.ensures at c.restored.ensures.refused)

pub returns-in-Err-clause-none : goal.returns-in-Err-clause-none
returns-in-Err-clause-none g c =
    subst (NoSave c.args.program.now c.args.file.now (g.F.Shelf.held c.args.shelf.now) (Rose (g.F.Shelf.faults c.args.shelf.now) (g.F.Shelf.faults c.load.new.self))) (sym c.unread_save.ensures) (unloaded-none c.args.program.now c.args.file.now (g.F.Shelf.held c.args.shelf.now) (Rose (g.F.Shelf.faults c.args.shelf.now) (g.F.Shelf.faults c.load.new.self)) c.in-Err.end (end-of c.args.program.now c.args.file.now (g.F.Shelf.held c.args.shelf.now) (Rose (g.F.Shelf.faults c.args.shelf.now) (g.F.Shelf.faults c.load.new.self)) c.in-Err.end (λ is. c.in-Err.ensures.absent (ap Err is)) (λ is. c.in-Err.ensures.too_long (ap Err is)) (λ is. c.in-Err.ensures.cause (ap Err is))))

pub returns-in-Err-clause-cut : goal.returns-in-Err-clause-cut
returns-in-Err-clause-cut g c = λ engine has.
    subst IsLoadCut (sym c.unread_save.ensures) (unloaded-cut c.args.program.now c.args.file.now (g.F.Shelf.held c.args.shelf.now) (Rose (g.F.Shelf.faults c.args.shelf.now) (g.F.Shelf.faults c.load.new.self)) c.in-Err.end (end-of c.args.program.now c.args.file.now (g.F.Shelf.held c.args.shelf.now) (Rose (g.F.Shelf.faults c.args.shelf.now) (g.F.Shelf.faults c.load.new.self)) c.in-Err.end (λ is. c.in-Err.ensures.absent (ap Err is)) (λ is. c.in-Err.ensures.too_long (ap Err is)) (λ is. c.in-Err.ensures.cause (ap Err is))) engine has)

pub returns-in-Err-clause-refused : goal.returns-in-Err-clause-refused
returns-in-Err-clause-refused g c = λ fault has.
    subst (TellsSave fault) (sym c.unread_save.ensures) (unloaded-refused c.args.program.now c.args.file.now (g.F.Shelf.held c.args.shelf.now) (Rose (g.F.Shelf.faults c.args.shelf.now) (g.F.Shelf.faults c.load.new.self)) c.in-Err.end (end-of c.args.program.now c.args.file.now (g.F.Shelf.held c.args.shelf.now) (Rose (g.F.Shelf.faults c.args.shelf.now) (g.F.Shelf.faults c.load.new.self)) c.in-Err.end (λ is. c.in-Err.ensures.absent (ap Err is)) (λ is. c.in-Err.ensures.too_long (ap Err is)) (λ is. c.in-Err.ensures.cause (ap Err is))) fault has)
