use Rattle.std.proofs.Common.{decimal, ◌<◌, ◌^◌, ◌∙◌, rules}
use Rattle.dsde_values.proofs.Spelled.{then_spelled, IsUtf8-decimal, decimal_read, decimal_not_refused}
use Rattle.dsde_values.proofs.decimal.decimal_of.Goals as goal

pub returns-in_default-clause-none : goal.returns-in_default-clause-none
returns-in_default-clause-none c =
    λ number fits same. c.in_default.ensures.cases.0 (IsUtf8-decimal number c.args.text.now fits same)

pub returns-in_default-parse-clause-none : goal.returns-in_default-parse-clause-none
returns-in_default-parse-clause-none c =
    λ number fits same. decimal_not_refused number c.in-Ok.word.now fits (c.in-Ok.ensures.cases.0 ∙ same) c.in_default-parse.ensures.value.0

pub returns-clause-none : goal.returns-clause-none
returns-clause-none c =
    then_spelled decimal (λ number. number < 2 ^ 64) _ _ c.args.text.now _ c.then_some.ensures (search rules)
    (λ number fits same. decimal_read number _ c.in-Ok.word.now fits (c.in-Ok.ensures.cases.0 ∙ same) c.in-Ok-parse.ensures.value.0)
