use Rattle.std.proofs.Common.{Err, Some, sym, subst, ap, ◌∙◌}
use Rattle.dsde_io.specs.Fault.{Rose}
use Rattle.dsde_cli.specs.Saved.{IsOfStore, Leaves}
use Rattle.dsde_cli.proofs.CliStoring.{unstored-badly, unstored-is, unstored-leaves}
use Rattle.dsde_cli.proofs.save.store_text.Goals as goal

pub returns-in-Err-clause-done : goal.returns-in-Err-clause-done
returns-in-Err-clause-done g c =
    subst (IsOfStore (Some c.args.name.now) (Rose (g.F.Shelf.faults c.args.shelf.now) (g.F.Shelf.faults c.store.new.self))) (sym c.unstored.ensures)
    (unstored-is c.args.name.now (Rose (g.F.Shelf.faults c.args.shelf.now) (g.F.Shelf.faults c.store.new.self)) c.in-Err.end
    (λ is. c.in-Err.ensures.not_absent (ap Err is)) (λ is. c.in-Err.ensures.not_too_long (ap Err is)) (λ is. c.in-Err.ensures.cause (ap Err is)))

pub returns-in-Err-clause-stored : goal.returns-in-Err-clause-stored
returns-in-Err-clause-stored g c = λ well. absurd (unstored-badly c.in-Err.end (sym c.unstored.ensures ∙ well))

pub returns-in-Err-clause-kept : goal.returns-in-Err-clause-kept
returns-in-Err-clause-kept g c =
    subst (Leaves (Some c.args.name.now) (Rose (g.F.Shelf.faults c.args.shelf.now) (g.F.Shelf.faults c.store.new.self)) (g.F.Shelf.held c.args.shelf.now) (g.F.Shelf.held c.store.new.self)) (sym c.unstored.ensures)
    (unstored-leaves c.args.name.now (Rose (g.F.Shelf.faults c.args.shelf.now) (g.F.Shelf.faults c.store.new.self)) (g.F.Shelf.held c.args.shelf.now) (g.F.Shelf.held c.store.new.self) c.in-Err.end
    (λ is. c.in-Err.ensures.not_absent (ap Err is)) (λ is. c.in-Err.ensures.not_too_long (ap Err is)) (λ is. c.in-Err.ensures.cause (ap Err is))
    (λ is. c.in-Err.ensures.unchanged (ap Err is)) c.in-Err.ensures.others)
