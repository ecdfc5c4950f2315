use Rattle.std.proofs.Common.{refl}
use Rattle.dsde_syntax.specs.declared.decl.Decl.{Decl}
use Rattle.dsde_language.specs.declared.known.Known.{Known}
use Rattle.dsde_language.specs.Rules.{decl_rule, decls_rule}
use Rattle.dsde_check.proofs.Rest.{Walk, step_went, step_failed}
use Rattle.dsde_check.proofs.whole.decls_rule.Goals as goal

abbrev by : Walk Decl Known
by = record { walk = decls_rule; step = decl_rule; opens = λ known own rest. refl }

pub loop-decl-preserved : goal.loop-decl-preserved
loop-decl-preserved c =
    step_went by c.args.decls.now c.loop-decl.decl-index c.decl-item.result c.loop-decl.known _ _ c.loop-decl-test.true c.decl-item.is c.in_ok-decl_rule.ensures c.loop-decl.invariant

pub returns-in_err-decl_rule : goal.returns-in_err-decl_rule
returns-in_err-decl_rule c =
    step_failed by c.args.decls.now c.loop-decl.decl-index c.decl-item.result c.loop-decl.known c.decl_rule.new.known _ c.in_err-decl_rule.field-0.0 c.from_residual.result c.loop-decl-test.true c.decl-item.is c.in_err-decl_rule.ensures c.loop-decl.invariant c.from_residual.ensures.0 c.from_residual.ensures.1
