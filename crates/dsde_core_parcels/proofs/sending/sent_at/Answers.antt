use Rattle.std.proofs.Common.{sym, subst}
use Rattle.dsde_core_moves.specs.given.system.Fitting.{FitsSends}
use Rattle.dsde_core_parcels.proofs.sending.sent_at.Goals as goal

pub returns-then-not-is_due-clause-fits : goal.returns-then-not-is_due-clause-fits
returns-then-not-is_due-clause-fits c =
    subst (FitsSends c.args.program.now c.args.leaf.now.model.0) (sym c.new.ensures) (record { own = c.requires.own; found = c.requires.found; sent = tt })
