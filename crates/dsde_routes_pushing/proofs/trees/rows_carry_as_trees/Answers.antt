use Rattle.std.proofs.Common.{◌≡◌, ℕ, List, [], get_or}
use Rattle.std.specs.List.{flat_map}
use Rattle.dsde_routes_wiring.specs.declared.row.Row.{Row}
use Rattle.dsde_routes_wiring.specs.Flatten.{flatten}
use Rattle.dsde_routes_pushing.specs.Carried.{Delivery, pushed}
use Rattle.dsde_routes_pushing.specs.Pushed.{AreRowsTo}
use Rattle.dsde_routes_pushing.specs.Wire.{wired_net}
use Rattle.dsde_routes_pushing.proofs.Tying.{each-handed}
use Rattle.dsde_routes_pushing.proofs.trees.rows_carry_as_trees.Goals as goal

pub returns : goal.returns
returns c = λ system handle time traffic net path of own have.
    each-handed system handle time traffic of.translate
    (λ (delivery : Delivery). (port : ℕ) (list : List Row) → AreRowsTo (flatten (wired_net handle net path)) delivery.part port list → get_or delivery.ports port [] ≡ flat_map (pushed traffic) list)
    net path
    (c.push_equals_gather.ensures.each traffic (wired_net handle net path) own have)
    (c.wirings_carry_as_trees.ensures.received system handle time traffic net path of (traffic.sent (handle path)))
