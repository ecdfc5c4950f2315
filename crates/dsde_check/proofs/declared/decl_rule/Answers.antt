use Rattle.std.proofs.Common.{rules, []}
use Rattle.dsde_language.specs.Rules.{around_with, decl_rule, top_rule}
use Rattle.dsde_check.proofs.Refusals.{refused}
use Rattle.dsde_check.proofs.declared.decl_rule.Goals as goal

pub returns-in_err-top-in-Top : goal.returns-in_err-top-in-Top
returns-in_err-top-in-Top c =
    refused (decl_rule c.args.known.now c.args.decl.now) (top_rule (around_with c.args.known.now []) c.in-Top.at c.in-Top.name c.as_slice-in-Top.result.now) c.args.known.now _ c.in_err-top-in-Top.field-0.0 c.from_residual-in_err-top-in-Top.result
    (search rules) c.in_err-top-in-Top.ensures (search rules)
