-- What comes out of ports, where the root is a network.
use Rattle.std.proofs.Common.{◌≡◌, ℕ, List, ap, subst, ◌∙◌}
use Rattle.dsde_syntax.specs.declared.decl.Model.{Model}
use Rattle.dsde_values.specs.declared.arrival.Item.{Item}
use Rattle.dsde_language.specs.declared.ids.ModelId.{ModelId}
use Rattle.dsde_sim_tree.specs.given.formalism.System.{Ports}
use Rattle.dsde_sim_working.specs.given.system.Program.{system}
use Rattle.dsde_sim_tree.specs.declared.sim.Sim.{Sim}
use Rattle.dsde_sim_tree.specs.declared.sim.Sim.TheVariants as sim
use Rattle.dsde_sim_tree.specs.Move.{ins_of}
use Rattle.dsde_sim_tree.specs.Output.{by_port}
use Rattle.dsde_sim_tree.specs.Tree.{model_of}
use Rattle.dsde_sim_working.specs.given.sim_starting.Fitting.{FitsGot}
use Rattle.dsde_sim_working.specs.given.sim_starting.lemmas_Stood.{model-net}
use Rattle.dsde_core_parcels.specs.given.core_flat.lemmas_Fitting.{tree-named}
use Rattle.dsde_core_parcels.specs.given.core_flat.due_Due.{Due}
use Rattle.dsde_core_parcels.specs.Outlets.{turn_outlets}
use Rattle.dsde_core_parcels.specs.declared.parcel.Outlet.{Outlet}
use Rattle.dsde_core_parcels.specs.Traffic.{IsCarrying}
use Rattle.dsde_core_parcels.specs.given.core_moves.flat_Flat.{Flat}
use Rattle.dsde_core_parcels.specs.given.core_moves.Flat.{tree_of, Stands}
use Rattle.dsde_core_outputs.specs.Rooting.{AreSent, IsRooted}

-- what items bring to the root
abbrev pub net_got : (model : Model) (flat : Flat) → IsRooted model flat → List Item → Ports
net_got model flat own items = by_port (ins_of (system model) (sim.Net own.net)) items

module _ (model : Model) (flat : Flat) (own : IsRooted model flat) (time : ℕ) (items : List Item) (dues : List Due) (outlets : List Outlet) (are : AreSent model flat time items dues outlets) where
  got-is : are.got ≡ net_got model flat own items
  got-is = are.came ∙ ap (λ (tree : Sim). by_port (ins_of (system model) tree) items) own.shown

  pub outlets-are : outlets ≡ turn_outlets (system model) time flat.grove flat.root (net_got model flat own items) dues
  outlets-are = are.sent ∙ ap (λ (got : Ports). turn_outlets (system model) time flat.grove flat.root got dues) got-is

  pub carries : Stands model flat → IsCarrying model flat.grove flat.root own.wiring own.net time (net_got model flat own items)
  carries stands = record {
    tree = stands.tree;
    stands = own.stands;
    named = tree-named model (sim.Net own.net) own.fits;
    fits = own.fits;
    send = are.send;
    come =
        subst (λ (number : ModelId). FitsGot model number.0 (net_got model flat own items)) (ap model_of own.shown ∙ model-net own.net)
        (subst (FitsGot model (model_of (tree_of flat)).0) got-is are.fits);
  }
