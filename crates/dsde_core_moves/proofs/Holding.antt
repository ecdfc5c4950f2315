-- What lies under the handle of a component has its entry's model and arguments.
use Rattle.std.proofs.Common.{◌≡◌, ◌==◌, Bool, true, false, ◌&&◌, ◌||◌, List, map, Option, Some, None, refl, sym, ◌∙◌, ap}
use Rattle.std.specs.Prelude.{is_some}
use Rattle.dsde_bank.specs.declared.handle.Handle.{Handle}
use Rattle.dsde_values.specs.declared.value.Value.{Value}
use Rattle.dsde_routes_wiring.specs.given.values_equality.Same.{are_same_values}
use Rattle.dsde_language.specs.declared.ids.ModelId.{ModelId}
use Rattle.dsde_routes_wiring.specs.given.structure.plan_Entry.{Entry}
use Rattle.dsde_routes_wiring.specs.given.structure.Gather.{is_same_name}
use Rattle.dsde_routes_wiring.specs.given.structure.Survival.{survives}
use Rattle.dsde_core_flat.specs.given.grove.Grove.{Grove, value_of}
use Rattle.dsde_sim_tree.specs.declared.sim.Kid.{Kid}
use Rattle.dsde_sim_tree.specs.declared.sim.Net.{Net}
use Rattle.dsde_sim_tree.specs.declared.sim.Sim.{Sim}
use Rattle.dsde_sim_tree.specs.declared.sim.Sim.TheVariants as sim
use Rattle.dsde_sim_tree.specs.declared.sim.Sim.TheOpen.{Net-F}
use Rattle.dsde_sim_tree.specs.declared.sim.Sim.TheViews.{out-Kid, out-Net, out-roll-Net}
use Rattle.dsde_sim_tree.specs.Tree.{model_of, args_of, entry_of}
use Rattle.dsde_core_flat.specs.given.sim_movers.lemmas_Opened.{model-Leaf, args-Leaf, model-Net, args-Net}
use Rattle.dsde_routes_wiring.specs.declared.wiring.Wiring.{Wiring}
use Rattle.dsde_routes_wiring.specs.declared.wiring.WiredKid.{WiredKid}
use Rattle.dsde_routes_wiring.specs.declared.wiring.WiredKid.TheViews.{out-Wiring, out-WiredKid}
use Rattle.dsde_core_flat.specs.declared.spot.Spot.{Spot}
use Rattle.dsde_core_flat.specs.declared.spot.Spot.TheVariants as spot
use Rattle.dsde_core_flat.specs.Shown.{leaf_in, model_in, args_in, net_under, kid_under, part_under}
use Rattle.dsde_core_flat.specs.Stands.{is_net}
use Rattle.dsde_core_flat.specs.lemmas.Apart.{name-shown, sim-shown}
use Rattle.dsde_core_flat.specs.lemmas.Opened.{net-shows}
use Rattle.dsde_core_moves.specs.Compared.{IsHeld, is_as, lies_as, stays_as}

and-assoc : (a b c : Bool) → (a && b && c) ≡ (a && (b && c))
and-assoc true b c = refl
and-assoc false b c = refl

module _ (own : Grove Spot) where
  -- the model and the arguments that a part shows, which lie under its handle
  record Lies (handle : Handle) (below : Option Wiring) : Type 0 where
    model : ModelId
    args : List Value
    model_is : model_of (part_under (value_of own) handle below) ≡ model
    args_are : args_of (part_under (value_of own) handle below) ≡ args
    lies : (entry : Entry) → lies_as (value_of own handle) entry ≡ is_as model args entry

  lies-at : (handle : Handle) (below : Option Wiring) (value : Spot) → value_of own handle ≡ Some value → is_net value ≡ is_some below → Lies handle below
  lies-at handle None (spot.Leaf leaf) held kind = record {
    model = leaf.model;
    args = leaf.args;
    model_is = ap (λ (h : Option Spot). model_of (sim.Leaf (leaf_in h))) held ∙ model-Leaf leaf;
    args_are = ap (λ (h : Option Spot). args_of (sim.Leaf (leaf_in h))) held ∙ args-Leaf leaf;
    lies = λ entry. ap (λ (h : Option Spot). lies_as h entry) held;
  }
  lies-at handle None (spot.Net model args) held kind = absurd (let wrong : true ≡ false = kind in cc)
  lies-at handle (Some net) (spot.Leaf leaf) held kind = absurd (let wrong : false ≡ true = kind in cc)
  lies-at handle (Some net) (spot.Net model args) held kind =
      let look = value_of own in
      let shown = net_under look net handle in
      let layer : Net-F Sim Kid Net = record { model = model_in (look handle); args = args_in (look handle); boss = leaf_in (look (out-Wiring net).boss); kids = map (kid_under look) (out-Wiring net).kids; links = (out-Wiring net).links } in
      let opened : out-Net shown ≡ layer = ap out-Net (net-shows look net handle) ∙ out-roll-Net layer in
      record {
        model = model;
        args = args;
        model_is = model-Net shown ∙ ap (λ (n : Net-F Sim Kid Net). n.model) opened ∙ ap model_in held;
        args_are = args-Net shown ∙ ap (λ (n : Net-F Sim Kid Net). n.args) opened ∙ ap args_in held;
        lies = λ entry. ap (λ (h : Option Spot). lies_as h entry) held;
      }

  -- a component stays as an entry where the entry that it has by itself survives as it
  pub stays-is : (kid : WiredKid) (entry : Entry) → IsHeld own kid → stays_as own kid entry ≡ survives (entry_of (kid_under (value_of own) kid)) entry
  stays-is kid entry is =
      let name = name-shown (value_of own) kid in
      let at = lies-at (out-WiredKid kid).handle (out-WiredKid kid).below is.value is.held is.kind in
      let model : model_of (out-Kid (kid_under (value_of own) kid)).sim ≡ at.model = ap model_of (sim-shown (value_of own) kid) ∙ at.model_is in
      let args : args_of (out-Kid (kid_under (value_of own) kid)).sim ≡ at.args = ap args_of (sim-shown (value_of own) kid) ∙ at.args_are in
      let shown : survives (entry_of (kid_under (value_of own) kid)) entry ≡ (is_same_name (out-WiredKid kid).name entry.name && at.model.0 == entry.model.0 && (entry.soft || are_same_values at.args entry.args)) =
      λ i. is_same_name (name i) entry.name && (model i).0 == entry.model.0 && (entry.soft || are_same_values (args i) entry.args) in
      ap (λ (b : Bool). is_same_name (out-WiredKid kid).name entry.name && b) (at.lies entry)
      ∙ sym (and-assoc (is_same_name (out-WiredKid kid).name entry.name) (at.model.0 == entry.model.0) (entry.soft || are_same_values at.args entry.args))
      ∙ sym shown
