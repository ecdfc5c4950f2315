-- What the parts that lie under handles carry to each other at one time. This project's profile.
use Rattle.std.specs.Prelude.{◌≡◌, ℕ, false, if◌then◌else◌, slice_get, slice_index_or, List, [], ◌∷◌, Option, Some, None, Result, Ok, Err}
use Rattle.dsde_bank.specs.declared.handle.Handle.{Handle}
use Rattle.dsde_syntax.specs.declared.decl.Model.{Model}
use Rattle.dsde_values.specs.declared.path.Path.{Path}
use Rattle.dsde_values.specs.declared.types.Ty.{Ty}
use Rattle.dsde_values.specs.Path.{root}
use Rattle.dsde_faults.specs.declared.end.LeafEnd.{LeafEnd}
use Rattle.dsde_language.specs.DeclaredModels.{types_of, Own, owns_of}
use Rattle.dsde_sim_tree.specs.given.formalism.leaf_Leaf.{Leaf}
use Rattle.dsde_sim_tree.specs.given.formalism.System.{Ports, System}
use Rattle.dsde_sim_tree.specs.given.formalism.Leaf.{component_of}
use Rattle.dsde_core_moves.specs.given.system.Program.{system}
use Rattle.dsde_core_moves.specs.given.system.Fitting.{AreOf}
use Rattle.dsde_core_moves.specs.given.system.Plans.{HasPort, body_ways}
use Rattle.dsde_core_moves.specs.given.grove.Grove.{Grove, IsTree, value_of}
use Rattle.dsde_sim_tree.specs.declared.sim.Net.{Net}
use Rattle.dsde_sim_tree.specs.declared.sim.Sim.TheVariants as sim
use Rattle.dsde_sim_tree.specs.declared.sim.Sim.TheViews.{out-Net}
use Rattle.dsde_sim_tree.specs.Output.{sent}
use Rattle.dsde_core_moves.specs.given.sim_starting.Fitting.{FitsBodySent, FitsGot, FitsTree}
use Rattle.dsde_routes_pushing.specs.given.sim_movers.Deliveries.{is_same_path}
use Rattle.dsde_routes_pushing.specs.given.sim_movers.Names.{IsNamed}
use Rattle.dsde_routes_wiring.specs.declared.row.Row.{Row}
use Rattle.dsde_routes_wiring.specs.declared.wiring.Wiring.{Wiring}
use Rattle.dsde_routes_wiring.specs.Wired.{is_same_handle}
use Rattle.dsde_routes_pushing.specs.Carried.{Traffic}
use Rattle.dsde_core_moves.specs.given.core_flat.spot_Spot.{Spot}
use Rattle.dsde_core_moves.specs.given.core_flat.spot_Spot_TheVariants as variant
use Rattle.dsde_core_moves.specs.given.core_flat.Places.{Place, part_places}
use Rattle.dsde_core_moves.specs.given.core_flat.Stands.{StandsFor}
use Rattle.dsde_core_parcels.specs.Along.{TakeAlong}

-- how many in ports and out ports there are to link to
abbrev pub ins_in : System → Option Spot → ℕ
ins_in system None = 0
ins_in system (Some (variant.Leaf leaf)) = (component_of system leaf).ins
ins_in system (Some (variant.Net model args)) = (system.network model args).ins

abbrev pub outs_in : System → Option Spot → ℕ
outs_in system None = 0
outs_in system (Some (variant.Leaf leaf)) = (component_of system leaf).outs
outs_in system (Some (variant.Net model args)) = (system.network model args).outs

-- what is sent, or nothing after a fault
abbrev pub sent_or_none : Result Ports LeafEnd → Ports
sent_or_none (Ok ports) = ports
sent_or_none (Err end) = []

-- what a component or an executive sends at a time
abbrev pub sent_in : System → ℕ → Option Spot → Ports
sent_in system time None = []
sent_in system time (Some (variant.Leaf leaf)) = sent_or_none (sent system leaf time)
sent_in system time (Some (variant.Net model args)) = []

-- what links carry at a time, where this comes to the root
abbrev pub traffic_of : System → Grove Spot → Handle → ℕ → Ports → Traffic
traffic_of system own top time got = record {
  translate = system.translate;
  ins = λ handle. ins_in system (value_of own handle);
  outs = λ handle. outs_in system (value_of own handle);
  sent = λ handle. if is_same_handle handle top then got else sent_in system time (value_of own handle);
}

-- the handle of the first of these places that has a path
abbrev pub handle_at : List Place → Path → Handle
handle_at [] path = record { birth = 0; slot = 0 }
handle_at (at ∷ ats) path = if is_same_path at.path path then at.handle else handle_at ats path

-- the handle of the part at a path
abbrev pub handle_in : Handle → Wiring → Path → Handle
handle_in top wiring = handle_at (part_places top root (Some wiring))

-- A component or an executive sends values of its out ports' types, and no fault comes.
pub record Sends (model : Model) (time : ℕ) (leaf : Leaf) : Type 0 where
  pub ports : Ports
  pub is : sent (system model) leaf time ≡ Ok ports
  pub fits : FitsBodySent model leaf.model.0 ports

-- So does each that lives.
abbrev pub AllSend : Model → ℕ → Grove Spot → Type 0
AllSend model time own = (handle : Handle) (leaf : Leaf) → value_of own handle ≡ Some (variant.Leaf leaf) → Sends model time leaf

-- What the source of a row gives goes along it, to values of the type of the port of its target: where that is
-- a component or an executive, of its in port.
pub record GoesToPort (model : Model) (own : Grove Spot) (given : Handle → Ports) (row : Row) : Type 0 where
  pub from : Ty
  pub to : Ty
  pub takes : TakeAlong model row.chain from to
  pub typed : AreOf (types_of model) from (slice_index_or (given row.source) row.source_port [])
  pub target : (leaf : Leaf) → value_of own row.target ≡ Some (variant.Leaf leaf) → (stands : Own) → slice_get (owns_of model.decls) leaf.model.0 ≡ Some stands → HasPort (body_ways model stands false) row.target_port to

-- A network of the program lies in a grove, and each of its components and executives sends without a fault;
-- values come to it that fit it.
pub record IsCarrying (model : Model) (own : Grove Spot) (top : Handle) (wiring : Wiring) (net : Net) (time : ℕ) (got : Ports) : Type 0 where
  pub tree : IsTree own
  pub stands : StandsFor own top (Some wiring) (sim.Net net)
  pub named : IsNamed (sim.Net net)
  pub fits : FitsTree model (sim.Net net)
  pub send : AllSend model time own
  pub come : FitsGot model (out-Net net).model.0 got
