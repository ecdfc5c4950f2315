-- What comes to a target, port by port.
use Rattle.std.specs.Prelude.{List, [], ◌∷◌}
use Rattle.dsde_values.specs.declared.arrival.Item.{Item}
use Rattle.dsde_routes_wiring.specs.given.structure.Gather.{Ports}
use Rattle.dsde_core_moves.specs.given.sim_gathering.Boxes.{added}
use Rattle.dsde_core_parcels.specs.declared.inbox.Get.{Get}

-- one after another, each behind what is there at its port; what is for a port that there is not is lost
abbrev pub add_all : List Get → Ports → Ports
add_all [] ports = ports
add_all (get ∷ gets) ports = add_all gets (added get.port get.values ports)

-- the values of items, one after another, each behind what is there at its port
abbrev pub put_all : List Item → Ports → Ports
put_all [] ports = ports
put_all (item ∷ items) ports = put_all items (added item.port (item.value ∷ []) ports)
