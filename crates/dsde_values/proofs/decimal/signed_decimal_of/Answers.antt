use Rattle.std.proofs.Common.{FitsSigned, ◌∙◌, rules}
use Rattle.std.specs.Int.{w64}
use Rattle.std.specs.Fmt.{signed_decimal}
use Rattle.dsde_values.proofs.Spelled.{then_spelled, IsUtf8-signed_decimal, signed_decimal_read, signed_decimal_not_refused}
use Rattle.dsde_values.proofs.decimal.signed_decimal_of.Goals as goal

pub returns-in_default-clause-none : goal.returns-in_default-clause-none
returns-in_default-clause-none c =
    λ number fits same. c.in_default.ensures.cases.0 (IsUtf8-signed_decimal number c.args.text.now fits same)

pub returns-in_default-parse-clause-none : goal.returns-in_default-parse-clause-none
returns-in_default-parse-clause-none c =
    λ number fits same. signed_decimal_not_refused number c.in-Ok.word.now fits (c.in-Ok.ensures.cases.0 ∙ same) c.in_default-parse.ensures.value.0

pub returns-clause-none : goal.returns-clause-none
returns-clause-none c =
    then_spelled signed_decimal (λ number. FitsSigned w64 number) _ _ c.args.text.now _ c.then_some.ensures (search rules)
    (λ number fits same. signed_decimal_read number _ c.in-Ok.word.now fits (c.in-Ok.ensures.cases.0 ∙ same) c.in-Ok-parse.ensures.value.0)
