use Rattle.std.proofs.Common.{sym, arith}
use Rattle.dsde_values.proofs.Variants.{placed, unplaced, placed_first}
use Rattle.dsde_values.proofs.reading.variant_of.Goals as goal

pub returns-in_err-place-clause-none : goal.returns-in_err-place-clause-none
returns-in_err-place-clause-none c = rw c.from_residual.ensures
    (λ variant fits is. unplaced c.args.variants.now c.args.name.now (sym c.in_err-place.ensures) variant is)

pub returns-then-place-clause-none : goal.returns-then-place-clause-none
returns-then-place-clause-none c = λ variant fits is.
    absurd (omega (arith, placed_first c.args.variants.now c.args.name.now c.in_ok-place.place (sym c.in_ok-place.ensures) variant is))

pub returns-clause-some : goal.returns-clause-some
returns-clause-some c =
    (omega arith, placed c.args.variants.now c.args.name.now c.in_ok-place.place (sym c.in_ok-place.ensures))
