-- One more expression is laid behind those before.
use Rattle.std.proofs.Common.{◌∙◌}
use Rattle.dsde_program_structures.specs.Parts.{lay_number}
use Rattle.dsde_program_structures.proofs.Loops.{next_own, next_tables, next_scope}
use Rattle.dsde_program_structures.proofs.arguments.add_exprs.Goals as goal

pub loop-own-preserved : goal.loop-own-preserved
loop-own-preserved c = (
  next_own c.args.exprs.now c.loop-own.own-index c.own-item.result c.loop-own-test.true c.own-item.is (lay_number c.args.resolver.now) c.loop-own.scope c.number.new.scope c.loop-own.tables c.number.new.tables c.in_ok-number.ensures.kept c.in_ok-number.ensures.tables c.loop-own.numbers c.push.new.self c.in_ok-number.field-0 c.in_ok-push.ensures.ok c.in_ok-number.ensures.own ∙ c.loop-own.invariant.0,
  next_tables c.args.exprs.now c.loop-own.own-index c.own-item.result c.loop-own-test.true c.own-item.is (lay_number c.args.resolver.now) c.loop-own.scope c.number.new.scope c.loop-own.tables c.number.new.tables c.in_ok-number.ensures.kept c.in_ok-number.ensures.tables ∙ c.loop-own.invariant.1,
  next_scope c.args.exprs.now c.loop-own.own-index c.own-item.result c.loop-own-test.true c.own-item.is (lay_number c.args.resolver.now) c.loop-own.scope c.number.new.scope c.loop-own.tables c.number.new.tables c.in_ok-number.ensures.kept c.in_ok-number.ensures.tables ∙ c.loop-own.invariant.2,
  c.in_ok-number.ensures.kept ∙ c.loop-own.invariant.3,
)
