-- What lies at places.
use Rattle.std.proofs.Common.{◌≡◌, ℕ, true, false, List, Option, Some, refl, sym, ap, ◌∙◌}
use Rattle.std.specs.Option.{option_map}
use Rattle.dsde_bank.specs.declared.handle.Handle.{Handle}
use Rattle.dsde_syntax.specs.declared.decl.Model.{Model}
use Rattle.dsde_values.specs.declared.value.Value.{Value}
use Rattle.dsde_values.specs.Path.{root}
use Rattle.dsde_language.specs.declared.ids.ModelId.{ModelId}
use Rattle.dsde_sim_tree.specs.given.formalism.leaf_Leaf.{Leaf}
use Rattle.dsde_sim_tree.specs.given.formalism.System.{Ports}
use Rattle.dsde_core_moves.specs.given.grove.Grove as grove
use Rattle.dsde_core_moves.specs.given.grove.Grove.{Grove, value_of}
use Rattle.dsde_sim_tree.specs.declared.sim.Net.{Net}
use Rattle.dsde_routes_wiring.specs.declared.wiring.Wiring.{Wiring}
use Rattle.dsde_routes_pushing.specs.lemmas.Lists.{wrong}
use Rattle.dsde_core_moves.specs.given.core_flat.spot_Spot.{Spot}
use Rattle.dsde_core_moves.specs.given.core_flat.spot_Spot_TheVariants as variant
use Rattle.dsde_core_moves.specs.given.core_flat.Places.{Place, place}
use Rattle.dsde_core_moves.specs.given.core_flat.Stands.{StandsAt, is_net}
use Rattle.dsde_core_parcels.specs.Traffic.{IsCarrying}

-- who lies at a place that is no network's
pub leaf-held : (own : Grove Spot) (at : Place) → StandsAt own at → at.is_net ≡ false → (leaf : Leaf) × (value_of own at.handle ≡ Some (variant.Leaf leaf))
leaf-held own at stands kind = by stands.part.value (ap (option_map (λ (part : grove.Spot Spot). part.value)) stands.live) (stands.kind ∙ kind)
  where
    by : (value : Spot) → value_of own at.handle ≡ Some value → is_net value ≡ false → (leaf : Leaf) × (value_of own at.handle ≡ Some (variant.Leaf leaf))
    by (variant.Leaf leaf) is is_leaf = (leaf, is)
    by (variant.Net model args) is is_leaf = wrong (sym is_leaf)

-- what lies at the place of a network
pub net-held : (own : Grove Spot) (at : Place) → StandsAt own at → at.is_net ≡ true → (model : ModelId) × (args : List Value) × (value_of own at.handle ≡ Some (variant.Net model args))
net-held own at stands kind = by stands.part.value (ap (option_map (λ (part : grove.Spot Spot). part.value)) stands.live) (stands.kind ∙ kind)
  where
    by : (value : Spot) → value_of own at.handle ≡ Some value → is_net value ≡ true → (model : ModelId) × (args : List Value) × (value_of own at.handle ≡ Some (variant.Net model args))
    by (variant.Leaf leaf) is is_net = wrong is_net
    by (variant.Net model args) is is_net = (model, args, is)

-- what lies under the root's handle is a network
pub root-is-net : (model : Model) (own : Grove Spot) (top : Handle) (wiring : Wiring) (net : Net) (time : ℕ) (got : Ports) → IsCarrying model own top wiring net time got → (leaf : Leaf) → value_of own top ≡ Some (variant.Leaf leaf) → ⊥
root-is-net model own top wiring net time got carry leaf held =
    let its = net-held own (place top root true) carry.stands.live.0 refl in
    let wrong : (let found : Option Spot = Some (variant.Leaf leaf) in found) ≡ Some (variant.Net its.0 its.1) = sym held ∙ its.2 in
    cc
