-- The root of a flat state that stands, where it is a network.
use Rattle.std.proofs.Common.{◌≡◌, ℕ, ◌<◌, true, false, List, length, map, Option, Some, None, IsSome, refl, ap, subst, ◌∙◌}
use Rattle.dsde_bank.specs.declared.handle.Handle.{Handle}
use Rattle.dsde_syntax.specs.declared.decl.Model.{Model}
use Rattle.dsde_values.specs.declared.value.Value.{Value}
use Rattle.dsde_language.specs.declared.ids.ModelId.{ModelId}
use Rattle.dsde_sim_tree.specs.given.formalism.leaf_Leaf.{Leaf}
use Rattle.dsde_sim_tree.specs.given.formalism.System.{System}
use Rattle.dsde_sim_tree.specs.given.structure.plan_Link.{Link}
use Rattle.dsde_language.specs.NodeModels.{infos_of}
use Rattle.dsde_sim_working.specs.given.system.Program.{system}
use Rattle.dsde_grove.specs.Grove.{value_of}
use Rattle.dsde_sim_tree.specs.declared.sim.Kid.{Kid}
use Rattle.dsde_sim_tree.specs.declared.sim.Net.{Net}
use Rattle.dsde_sim_tree.specs.declared.sim.Sim.{Sim}
use Rattle.dsde_sim_tree.specs.declared.sim.Sim.TheVariants as sim
use Rattle.dsde_sim_tree.specs.declared.sim.Sim.TheOpen as layer
use Rattle.dsde_sim_tree.specs.declared.sim.Sim.TheOpen.{Net-F, Sim-F}
use Rattle.dsde_sim_tree.specs.declared.sim.Sim.TheViews.{out-Net, out-roll-Net}
use Rattle.dsde_sim_tree.specs.Move.{ins_of}
use Rattle.dsde_sim_tree.specs.Opened.{shape_in}
use Rattle.dsde_sim_tree.specs.Start.{net_of}
use Rattle.dsde_sim_working.specs.given.sim_starting.Fitting.{FitsShape, FitsTree}
use Rattle.dsde_sim_working.specs.given.sim_starting.lemmas_Fits.{net-shape, net-tree}
use Rattle.dsde_core_parcels.specs.given.routes_wiring.wiring_Wiring.{Wiring}
use Rattle.dsde_core_parcels.specs.given.routes_wiring.wiring_WiredKid_TheViews.{out-Wiring}
use Rattle.dsde_core_parcels.specs.given.core_flat.Shown.{args_in, kid_under, leaf_in, model_in, net_under, part_under, Look}
use Rattle.dsde_core_parcels.specs.given.core_flat.Stands.{StandsFor}
use Rattle.dsde_core_parcels.specs.given.core_flat.lemmas_Context.{out-Network}
use Rattle.dsde_core_parcels.specs.given.core_flat.lemmas_Opened.{net-shows}
use Rattle.dsde_core_parcels.specs.given.core_moves.flat_Flat.{Flat}
use Rattle.dsde_core_parcels.specs.given.core_moves.Flat.{rows_of, tree_of, Stands}
use Rattle.dsde_core_outputs.specs.Rooting.{outs_of, IsRooted}

-- the wiring, where there is one
some-wiring : (own : Option Wiring) → IsSome own → (wiring : Wiring) × (own ≡ Some wiring)
some-wiring None is = absurd (let wrong : false ≡ true = is in cc)
some-wiring (Some wiring) is = (wiring, refl)

-- the model and the arguments of a network that handles show
module _ (model : ModelId) (args : List Value) (boss : Leaf) (kids : List Kid) (links : List Link) where
  net-model : (out-Net (net_of model args boss kids links)).model ≡ model
  net-model = ap (λ (own : Net-F Sim Kid Net). own.model) (out-roll-Net (record { model = model; args = args; boss = boss; kids = kids; links = links }))

  net-args : (out-Net (net_of model args boss kids links)).args ≡ args
  net-args = ap (λ (own : Net-F Sim Kid Net). own.args) (out-roll-Net (record { model = model; args = args; boss = boss; kids = kids; links = links }))

module _ (look : Look) (wiring : Wiring) (handle : Handle) where
  shown-model : (out-Net (net_under look wiring handle)).model ≡ model_in (look handle)
  shown-model =
      ap (λ (net : Net). (out-Net net).model) (net-shows look wiring handle)
      ∙ net-model (model_in (look handle)) (args_in (look handle)) (leaf_in (look (out-Wiring wiring).boss)) (map (kid_under look) (out-Wiring wiring).kids) (out-Wiring wiring).links

  shown-args : (out-Net (net_under look wiring handle)).args ≡ args_in (look handle)
  shown-args =
      ap (λ (net : Net). (out-Net net).args) (net-shows look wiring handle)
      ∙ net-args (model_in (look handle)) (args_in (look handle)) (leaf_in (look (out-Wiring wiring).boss)) (map (kid_under look) (out-Wiring wiring).kids) (out-Wiring wiring).links

-- a flat state that shows a network
with-net : (model : Model) (flat : Flat) → Stands model flat → (wiring : Wiring) → flat.wiring ≡ Some wiring → (net : Net) → tree_of flat ≡ sim.Net net →
    (out-Net net).model ≡ model_in (value_of flat.grove flat.root) → (out-Net net).args ≡ args_in (value_of flat.grove flat.root) → IsRooted model flat
with-net model flat stands wiring wired net shown number args = record {
  wiring = wiring;
  wired = wired;
  net = net;
  shown = shown;
  stands =
      subst (λ (own : Option Wiring). StandsFor flat.grove flat.root own (sim.Net net)) wired
      (subst (λ (tree : Sim). StandsFor flat.grove flat.root flat.wiring tree) shown stands.stands);
  fits = subst (FitsTree model) shown stands.fits;
  rows = stands.rows ∙ ap rows_of wired;
  number = number;
  args = args;
}

pub roots-show : (model : Model) (flat : Flat) → Stands model flat → IsSome flat.wiring → IsRooted model flat
roots-show model flat stands is =
    let found = some-wiring flat.wiring is in
    with-net model flat stands found.0 found.1 (net_under (value_of flat.grove) found.0 flat.root) (ap (part_under (value_of flat.grove) flat.root) found.1)
    (shown-model (value_of flat.grove) found.0 flat.root) (shown-args (value_of flat.grove) found.0 flat.root)

-- how many in ports a network has
net-ins : (system : System) (net : Net) → ins_of system (sim.Net net) ≡ (system.network (out-Net net).model (out-Net net).args).ins
net-ins system net =
    ap (λ (own : Sim-F Sim Kid Net). let ins : ℕ = elim own [
      | layer.Leaf leaf ↦ (system.component leaf.model leaf.args).ins
      | layer.Net one ↦ (system.network (out-Net one).model (out-Net one).args).ins
    ] in ins) (out-Network net)

module _ (model : Model) (flat : Flat) (own : IsRooted model flat) where
  shape : FitsShape model (shape_in own.net)
  shape = net-shape model own.net (net-tree model own.net own.fits)

  pub root-below : (model_in (value_of flat.grove flat.root)).0 < length (infos_of model)
  root-below = subst (λ (number : ModelId). number.0 < length (infos_of model)) own.number shape.args.below

  pub root-network : (system model).is_network (model_in (value_of flat.grove flat.root)) ≡ true
  root-network = subst (λ (number : ModelId). (system model).is_network number ≡ true) own.number shape.links.network

  -- its in ports, and its out ports
  pub root-ins : ins_of (system model) (tree_of flat) ≡ ((system model).network (model_in (value_of flat.grove flat.root)) (args_in (value_of flat.grove flat.root))).ins
  root-ins =
      ap (ins_of (system model)) own.shown
      ∙ net-ins (system model) own.net
      ∙ (λ i. ((system model).network (own.number i) (own.args i)).ins)

  pub root-outs : ((system model).network (out-Net own.net).model (out-Net own.net).args).outs ≡ outs_of (system model) flat
  root-outs = λ i. ((system model).network (own.number i) (own.args i)).outs
