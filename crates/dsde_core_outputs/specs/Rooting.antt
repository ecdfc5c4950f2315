-- The output phase of a turn of a flat state whose root is a network. This project's profile.
use Rattle.std.specs.Prelude.{◌≡◌, ℕ, List, ◌++◌, Some, IsPermutation}
use Rattle.std.specs.List.{flat_map}
use Rattle.dsde_syntax.specs.declared.decl.Model.{Model}
use Rattle.dsde_values.specs.declared.arrival.Item.{Item}
use Rattle.dsde_sim_tree.specs.given.formalism.System.{Ports, System}
use Rattle.dsde_sim_working.specs.given.system.Program.{system}
use Rattle.dsde_sim_tree.specs.given.structure.Gather.{Translation}
use Rattle.dsde_grove.specs.Grove.{Grove, value_of}
use Rattle.dsde_sim_tree.specs.declared.sim.Net.{Net}
use Rattle.dsde_sim_tree.specs.declared.sim.Sim.TheVariants as sim
use Rattle.dsde_sim_tree.specs.declared.sim.Sim.TheViews.{out-Net}
use Rattle.dsde_sim_tree.specs.Move.{ins_of}
use Rattle.dsde_sim_tree.specs.Output.{by_port}
use Rattle.dsde_sim_tree.specs.Tree.{model_of}
use Rattle.dsde_sim_working.specs.given.sim_starting.Fitting.{FitsGot, FitsTree}
use Rattle.dsde_core_parcels.specs.given.routes_wiring.wiring_Wiring.{Wiring}
use Rattle.dsde_core_parcels.specs.given.routes_wiring.Flatten.{flatten}
use Rattle.dsde_core_parcels.specs.given.routes_wiring.Sets.{Rows}
use Rattle.dsde_core_parcels.specs.given.core_flat.spot_Spot.{Spot}
use Rattle.dsde_core_parcels.specs.given.core_flat.Shown.{args_in, model_in}
use Rattle.dsde_core_parcels.specs.given.core_flat.Stands.{StandsFor}
use Rattle.dsde_core_parcels.specs.given.core_flat.due_Due.{Due}
use Rattle.dsde_core_parcels.specs.given.core_flat.Due.{AreDue}
use Rattle.dsde_core_parcels.specs.declared.inbox.Inbox.{Inbox}
use Rattle.dsde_core_parcels.specs.declared.parcel.Outlet.{Outlet}
use Rattle.dsde_core_parcels.specs.declared.parcel.Parcel.{Parcel}
use Rattle.dsde_core_parcels.specs.Parcels.{AreOrdered, ArePushed}
use Rattle.dsde_core_parcels.specs.Delivered.{inboxes_of}
use Rattle.dsde_core_parcels.specs.Traffic.{AllSend}
use Rattle.dsde_core_parcels.specs.Outlets.{turn_outlets}
use Rattle.dsde_core_parcels.specs.given.core_moves.flat_Flat.{Flat}
use Rattle.dsde_core_parcels.specs.given.core_moves.flat_Mover.{Mover}
use Rattle.dsde_core_parcels.specs.given.core_moves.Flat.{tree_of}
use Rattle.dsde_core_parcels.specs.Calling.{due_movers, left_by, told_by}
use Rattle.dsde_core_outputs.specs.Filled.{AreFilled}

-- how many ports come out of the root, where it is a network
abbrev pub outs_of : System → Flat → ℕ
outs_of system flat = (system.network (model_in (value_of flat.grove flat.root)) (args_in (value_of flat.grove flat.root))).outs

-- A flat state shows a network of the program, which has its wiring and the model under the root's handle.
pub record IsRooted (model : Model) (flat : Flat) : Type 0 where
  pub wiring : Wiring
  pub wired : flat.wiring ≡ Some wiring
  pub net : Net
  pub shown : tree_of flat ≡ sim.Net net
  pub stands : StandsFor flat.grove flat.root (Some wiring) (sim.Net net)
  pub fits : FitsTree model (sim.Net net)
  pub rows : flat.rows ≡ flatten wiring
  pub number : (out-Net net).model ≡ model_in (value_of flat.grove flat.root)
  pub args : (out-Net net).args ≡ args_in (value_of flat.grove flat.root)

-- This is what comes out of ports: what those who are due send, none of them with a fault, and what these
-- items bring to the root.
pub record AreSent (model : Model) (flat : Flat) (time : ℕ) (items : List Item) (dues : List Due) (outlets : List Outlet) : Type 0 where
  pub got : Ports
  pub came : got ≡ by_port (ins_of (system model) (tree_of flat)) items
  pub fits : FitsGot model (model_of (tree_of flat)).0 got
  pub due : AreDue flat.grove time dues
  pub send : AllSend model time flat.grove
  pub sent : outlets ≡ turn_outlets (system model) time flat.grove flat.root got dues

-- What comes out of ports goes along rows into these inboxes.
pub record FillInboxes (table : Rows) (gives : Translation) (outlets : List Outlet) (inboxes : List Inbox) : Type 0 where
  pub pushed : List Parcel
  pub parcels : List Parcel
  pub are : ArePushed table gives outlets pushed
  pub same : IsPermutation pushed parcels
  pub order : AreOrdered parcels
  pub filled : inboxes ≡ inboxes_of parcels

-- The inboxes of a turn are filled.
pub record AreReady (model : Model) (flat : Flat) (time : ℕ) (items : List Item) (dues : List Due) (inboxes : List Inbox) : Type 0 where
  pub rooted : IsRooted model flat
  pub filled : AreFilled model flat.grove flat.root rooted.wiring rooted.net time items dues inboxes

-- those who are due, each with what is in its inbox, and behind them the others in whose inboxes something is
abbrev pub taken_by : System → Grove Spot → ℕ → List Due → List Inbox → List Mover
taken_by system own time dues inboxes = due_movers system own dues inboxes ++ flat_map (told_by system own time) (left_by dues inboxes)
