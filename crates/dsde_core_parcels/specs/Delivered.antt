-- What inboxes bring to whoever stands in a tree.
use Rattle.std.specs.Prelude.{◌≡◌, ◌||◌, ℕ, true, List, [], map, Some}
use Rattle.std.specs.List.{range_with_len}
use Rattle.dsde_bank.specs.declared.handle.Handle.{Handle}
use Rattle.dsde_values.specs.declared.arrival.Item.{Item}
use Rattle.dsde_values.specs.declared.path.Path.{Path}
use Rattle.dsde_values.specs.Path.{root}
use Rattle.dsde_sim_tree.specs.given.formalism.leaf_Leaf.{Leaf}
use Rattle.dsde_values.specs.declared.name.Name.{Name}
use Rattle.dsde_sim_tree.specs.given.formalism.Leaf.{component_of, has_come, is_due}
use Rattle.dsde_sim_tree.specs.given.formalism.System.{System}
use Rattle.dsde_sim_tree.specs.declared.sim.Net.{Net}
use Rattle.dsde_sim_tree.specs.declared.sim.Sim.{Sim}
use Rattle.dsde_sim_tree.specs.declared.sim.Sim.TheVariants as sim
use Rattle.dsde_sim_tree.specs.Move.{ins_of}
use Rattle.dsde_sim_tree.specs.Output.{by_port}
use Rattle.dsde_routes_pushing.specs.given.sim_movers.Deliveries.{Delivery}
use Rattle.dsde_routes_pushing.specs.given.sim_movers.Movers.{leaf_at, path_behind, seat_behind, seat_of}
use Rattle.dsde_routes_pushing.specs.given.sim_movers.Names.{IsNamed}
use Rattle.dsde_routes_pushing.specs.Carried.{Traffic}
use Rattle.dsde_routes_pushing.specs.Wire.{IsTrafficOf, wired_net}
use Rattle.dsde_core_parcels.specs.declared.parcel.Parcel.{Parcel}
use Rattle.dsde_core_parcels.specs.declared.inbox.Inbox.{Inbox}
use Rattle.dsde_core_parcels.specs.Inboxes.{lot_of, put_lots}
use Rattle.dsde_core_parcels.specs.Brought.{brought}
use Rattle.dsde_core_parcels.specs.Sent.{AreParcels}

-- what inboxes bring to a component or an executive at a path
abbrev pub brought_to : System → (Path → Handle) → List Inbox → Path → Leaf → Delivery
brought_to system handle inboxes path leaf = record {
  path = path;
  model = leaf.model;
  ports = map (brought inboxes (handle path)) (range_with_len 0 (component_of system leaf).ins);
}

-- Parcels are those of a turn of a tree whose parts have these handles, where these items come to its root.
pub record AreTurnParcels (system : System) (handle : Path → Handle) (time : ℕ) (traffic : Traffic) (net : Net) (items : List Item) (parcels : List Parcel) : Type 0 where
  pub named : IsNamed (sim.Net net)
  pub of : IsTrafficOf system handle time traffic (sim.Net net) root
  pub came : traffic.sent (handle root) ≡ by_port (ins_of system (sim.Net net)) items
  pub are : AreParcels traffic (wired_net handle net root) parcels

-- the inboxes that parcels fill
abbrev pub inboxes_of : List Parcel → List Inbox
inboxes_of parcels = put_lots [] (map lot_of parcels)

-- A delivery is what inboxes bring to whoever stands at its path.
pub record IsBrought (system : System) (handle : Path → Handle) (tree : Sim) (inboxes : List Inbox) (own : Delivery) : Type 0 where
  pub leaf : Leaf
  pub there : leaf_at (seat_behind root own.path) tree ≡ Some leaf
  pub is : own ≡ brought_to system handle inboxes own.path leaf

-- Whoever stands in a tree and is due, or to whom the inboxes bring something: this is what it receives.
pub record IsCalled (system : System) (handle : Path → Handle) (tree : Sim) (time : ℕ) (inboxes : List Inbox) (own : Delivery) : Type 0 where
  pub names : List Name
  pub path : own.path ≡ path_behind root names
  pub leaf : Leaf
  pub there : leaf_at (seat_of names) tree ≡ Some leaf
  pub is : own ≡ brought_to system handle inboxes own.path leaf
  pub called : (is_due leaf time || has_come own.ports) ≡ true
