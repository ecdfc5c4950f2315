use Rattle.std.proofs.Common.{sym, subst}
use Rattle.std.proofs.Math.Facts.{to_z-of_z}
use Rattle.dsde_values.specs.declared.when.When.{When}
use Rattle.dsde_language.specs.Outcome.{Outcome, Gives}
use Rattle.dsde_atomic.proofs.Advances.{number-due}
use Rattle.dsde_atomic.proofs.due.after_number.Goals as goal

pub returns-clause-gives : goal.returns-clause-gives
returns-clause-gives c =
    subst (λ (meant : Outcome When). Gives meant c.after.result) (sym (number-due c.args.at c.args.time c.args.number))
    (rw (to_z-of_z c.ranges.number) at c.after.ensures.gives)
