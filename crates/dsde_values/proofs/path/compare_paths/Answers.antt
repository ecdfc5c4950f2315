use Rattle.std.proofs.Common.{rules}
use Rattle.dsde_values.proofs.Orders.{equal_paths}
use Rattle.dsde_values.proofs.path.compare_paths.Goals as goal

pub returns-clause-equal : goal.returns-clause-equal
returns-clause-equal c = equal_paths c.cmp.result c.args.path.now c.args.other.now (search rules)
