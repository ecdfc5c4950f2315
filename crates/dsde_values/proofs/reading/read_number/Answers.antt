use Rattle.std.proofs.Common.{FitsSigned, rules, sym, ◌∙◌}
use Rattle.std.specs.Int.{w64}
use Rattle.std.proofs.lemmas.Int.{to_z-of_z}
use Rattle.dsde_values.proofs.Numbers.{take-number_size, Begins-number_size, only_number}
use Rattle.dsde_values.proofs.reading.read_number.Goals as goal

pub returns-in_err-number-clause-none : goal.returns-in_err-number-clause-none
returns-in_err-number-clause-none c = rw c.from_residual.ensures
    (λ number fits begins. c.in_err-number.ensures.none number fits
    (rw c.number_size.ensures.size (take-number_size number c.args.bytes.now fits begins)))

pub returns-clause-begins : goal.returns-clause-begins
returns-clause-begins c =
    let fits : FitsSigned w64 c.in_ok-number.number = search rules in
    rw (to_z-of_z w64 c.in_ok-number.number fits)
    (Begins-number_size c.in_ok-number.number c.args.bytes.now (rw c.number_size.ensures.size at c.in_ok-number.ensures.some))

pub returns-clause-only : goal.returns-clause-only
returns-clause-only c = λ number fits begins.
    let read_fits : FitsSigned w64 c.in_ok-number.number = search rules in
    only_number number c.in_ok-number.number c.args.bytes.now fits read_fits begins
    (rw c.number_size.ensures.size at c.in_ok-number.ensures.some)
    ∙ sym (to_z-of_z w64 c.in_ok-number.number read_fits)
