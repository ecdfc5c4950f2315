use Rattle.std.proofs.Common.{rules}
use Rattle.dsde_values.proofs.Orders.{equal_names}
use Rattle.dsde_values.proofs.name.compare_names.Goals as goal

pub returns-clause-equal : goal.returns-clause-equal
returns-clause-equal c = equal_names c.then-2.result c.args.name.now c.args.other.now (search rules)
