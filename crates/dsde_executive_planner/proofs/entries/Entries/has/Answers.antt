use Rattle.std.proofs.Common.{◌∙◌, ap}
use Rattle.dsde_executive_plans.specs.Layout.{is_there}
use Rattle.dsde_executive_planner.proofs.Naming.{found}
use Rattle.dsde_executive_planner.proofs.entries.Entries.has.Goals as goal

pub returns-in-Many : goal.returns-in-Many
returns-in-Many c =
    c.contains_key.ensures ∙ found c.orders_are_total.ensures.names c.args.name.now c.in-Many.map.entries ∙ ap (is_there c.args.name.now) (rw c.in-Many.is at c.self.view_is)
