use Rattle.std.proofs.Common.{arith}
use Rattle.dsde_check_expressions.proofs.Order.{refused}
use Rattle.dsde_check_expressions.proofs.declared.all_in_order.Goals as goal

pub returns-then-len-sets-clause-says : goal.returns-then-len-sets-clause-says
returns-then-len-sets-clause-says c = refused c.args.around.now c.args.fields.now c.args.sets.now c.args.owner.now.at (grind (arith, c.if-len-sets.true, c.len.ensures))
