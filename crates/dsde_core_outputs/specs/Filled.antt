-- What is known of a turn of a tree that lies in a grove before anybody moves. This project's profile.
use Rattle.std.specs.Prelude.{◌≡◌, ℕ, List}
use Rattle.dsde_bank.specs.declared.handle.Handle.{Handle}
use Rattle.dsde_syntax.specs.declared.decl.Model.{Model}
use Rattle.dsde_values.specs.declared.arrival.Item.{Item}
use Rattle.dsde_sim_working.specs.given.system.Program.{system}
use Rattle.dsde_grove.specs.Grove.{Grove}
use Rattle.dsde_sim_tree.specs.declared.sim.Net.{Net}
use Rattle.dsde_sim_tree.specs.declared.sim.Sim.TheVariants as sim
use Rattle.dsde_sim_tree.specs.Move.{ins_of}
use Rattle.dsde_sim_tree.specs.Output.{by_port}
use Rattle.dsde_core_parcels.specs.given.routes_wiring.wiring_Wiring.{Wiring}
use Rattle.dsde_core_parcels.specs.given.core_flat.spot_Spot.{Spot}
use Rattle.dsde_core_parcels.specs.given.core_flat.due_Due.{Due}
use Rattle.dsde_core_parcels.specs.given.core_flat.Due.{AreDue}
use Rattle.dsde_core_parcels.specs.declared.inbox.Inbox.{Inbox}
use Rattle.dsde_core_parcels.specs.declared.parcel.Parcel.{Parcel}
use Rattle.dsde_core_parcels.specs.Delivered.{AreTurnParcels, inboxes_of}
use Rattle.dsde_core_parcels.specs.Traffic.{IsCarrying, handle_in, traffic_of}

-- A network of the program lies in a grove; who is due is known, and the inboxes are those of the parcels
-- of a turn, where these items come to the root.
pub record AreFilled (model : Model) (own : Grove Spot) (top : Handle) (wiring : Wiring) (net : Net) (time : ℕ) (items : List Item) (due : List Due) (inboxes : List Inbox) : Type 0 where
  pub carry : IsCarrying model own top wiring net time (by_port (ins_of (system model) (sim.Net net)) items)
  pub are_due : AreDue own time due
  pub parcels : List Parcel
  pub turn : AreTurnParcels (system model) (handle_in top wiring) time (traffic_of (system model) own top time (by_port (ins_of (system model) (sim.Net net)) items)) net items parcels
  pub filled : inboxes ≡ inboxes_of parcels
