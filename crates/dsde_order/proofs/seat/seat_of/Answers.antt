use Rattle.std.proofs.Common.{◌∙◌, ap, List}
use Rattle.dsde_values.specs.declared.name.Name.{Name}
use Rattle.dsde_sim_movers.specs.Movers.{seat_of}
use Rattle.dsde_order.proofs.seat.seat_of.Goals as goal

pub returns-in-Some-clause-names : goal.returns-in-Some-clause-names
returns-in-Some-clause-names c = c.seat_by.ensures.names ∙ ap (λ (names : List Name). (seat_of names).names) c.behind_root-names.ensures

pub returns-in-Some-clause-boss : goal.returns-in-Some-clause-boss
returns-in-Some-clause-boss c = c.seat_by.ensures.boss ∙ ap (λ (names : List Name). (seat_of names).is_boss) c.behind_root-names.ensures
