-- Where all that is wired is live, each handle holds what the wiring says.
use Rattle.std.proofs.Common.{◌≡◌, true, false, List, [], ◌∷◌, ◌++◌, map, Option, Some, IsSome, refl, sym, ap, subst, ◌∙◌}
use Rattle.std.specs.Option.{option_map}
use Rattle.std.specs.List.{AllByRecursion}
use Rattle.dsde_bank.specs.declared.handle.Handle.{Handle}
use Rattle.dsde_values.specs.declared.path.Path.{Path}
use Rattle.dsde_values.specs.declared.value.Value.{Value}
use Rattle.dsde_language.specs.declared.ids.ModelId.{ModelId}
use Rattle.dsde_routes_wiring.specs.given.structure.plan_Link.{Link}
use Rattle.dsde_sim_tree.specs.Told.{below, to_boss}
use Rattle.dsde_sim_tree.specs.given.formalism.leaf_Leaf.{Leaf}
use Rattle.dsde_grove.specs.Grove as grove
use Rattle.dsde_grove.specs.Grove.{Grove, spot, value_of}
use Rattle.dsde_sim_tree.specs.declared.sim.Kid.{Kid}
use Rattle.dsde_sim_tree.specs.Start.{net_of}
use Rattle.dsde_routes_wiring.specs.declared.wiring.Wiring.{Wiring}
use Rattle.dsde_routes_wiring.specs.declared.wiring.WiredKid.{WiredKid}
use Rattle.dsde_routes_wiring.specs.declared.wiring.WiredKid.TheViews.{out-Wiring, out-WiredKid}
use Rattle.dsde_core_moving.specs.given.core_flat.spot_Spot.{Spot}
use Rattle.dsde_core_moving.specs.given.core_flat.spot_Spot_TheVariants as variant
use Rattle.dsde_core_moving.specs.given.core_flat.Scheduled.{held_leaf}
use Rattle.dsde_core_moving.specs.given.core_flat.Shown.{Look, leaf_in, model_in, args_in, net_under, kid_under}
use Rattle.dsde_core_moving.specs.given.core_flat.Places.{Place, place, places_of, kid_places}
use Rattle.dsde_core_moving.specs.given.core_flat.Stands.{is_net, StandsAt}
use Rattle.dsde_core_moving.specs.given.core_flat.lemmas_Opened.{kid-stands, net-shows, net-stands}
use Rattle.dsde_core_moving.specs.given.core_flat.lemmas_Frame.{all-left, all-right}
use Rattle.dsde_core.specs.Live.{IsLive, KidIsLive}

leaf-held : (held : Spot) → is_net held ≡ false → IsSome (held_leaf (Some held))
leaf-held (variant.Leaf leaf) is = refl
leaf-held (variant.Net model args) is = absurd (let wrong : true ≡ false = is in cc)

module _ (own : Grove Spot) where
  value-there : (at : Place) (stands : StandsAt own at) → value_of own at.handle ≡ Some stands.part.value
  value-there at stands = ap (option_map (λ (part : grove.Spot Spot). part.value)) stands.live

  -- a component or an executive lies where one stands
  leaf-there : (at : Place) → StandsAt own at → at.is_net ≡ false → IsSome (held_leaf (value_of own at.handle))
  leaf-there at stands is =
      subst (λ (held : Option Spot). IsSome (held_leaf held)) (sym (value-there at stands)) (leaf-held stands.part.value (stands.kind ∙ is))

  module _ (handle : Handle) (net : Wiring) (live : IsLive own handle (Some net)) where
    abbrev each : List Place
    each = places_of live.path (out-Wiring net).kids

    abbrev last : List Place
    last = place (out-Wiring net).boss (to_boss live.path) false ∷ []

    all : AllByRecursion (StandsAt own) (each ++ last)
    all = subst (AllByRecursion (StandsAt own)) (net-stands net live.path) live.all.1

    pub boss-live : IsSome (held_leaf (value_of own (out-Wiring net).boss))
    boss-live = leaf-there (place (out-Wiring net).boss (to_boss live.path) false) (all-right (StandsAt own) each last all).0 refl

    each-lives : (path : Path) (kids : List WiredKid) → AllByRecursion (StandsAt own) (places_of path kids) → AllByRecursion (KidIsLive own) kids
    each-lives path [] stand = tt
    each-lives path (kid ∷ kids) stand = (
      record { path = below path (out-WiredKid kid).name; all = subst (AllByRecursion (StandsAt own)) (kid-stands kid path) (all-left (StandsAt own) (kid_places kid path) (places_of path kids) stand) },
      each-lives path kids (all-right (StandsAt own) (kid_places kid path) (places_of path kids) stand),
    )

    pub kids-live : AllByRecursion (KidIsLive own) (out-Wiring net).kids
    kids-live = each-lives live.path (out-Wiring net).kids (all-left (StandsAt own) each last all)

-- a network of these parts is what a handle shows
pub net-copied : (look : Look) (net : Wiring) (handle : Handle) (model : ModelId) (args : List Value) (boss : Leaf) (kids : List Kid) (links : List Link) →
    model ≡ model_in (look handle) → args ≡ args_in (look handle) → boss ≡ leaf_in (look (out-Wiring net).boss) → kids ≡ map (kid_under look) (out-Wiring net).kids → links ≡ (out-Wiring net).links →
    net_of model args boss kids links ≡ net_under look net handle
net-copied look net handle model args boss kids links model_is args_is boss_is kids_are links_are =
    ap (λ (m : ModelId). net_of m args boss kids links) model_is
    ∙ ap (λ (own : List Value). net_of (model_in (look handle)) own boss kids links) args_is
    ∙ ap (λ (leaf : Leaf). net_of (model_in (look handle)) (args_in (look handle)) leaf kids links) boss_is
    ∙ ap (λ (own : List Kid). net_of (model_in (look handle)) (args_in (look handle)) (leaf_in (look (out-Wiring net).boss)) own links) kids_are
    ∙ ap (λ (own : List Link). net_of (model_in (look handle)) (args_in (look handle)) (leaf_in (look (out-Wiring net).boss)) (map (kid_under look) (out-Wiring net).kids) own) links_are
    ∙ sym (net-shows look net handle)
