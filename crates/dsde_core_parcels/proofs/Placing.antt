-- What a flat state carries is the traffic of its tree.
use Rattle.std.proofs.Common.{◌≡◌, ℕ, Bool, true, false, cond, List, [], ◌∷◌, ◌++◌, map, Option, Some, None, Result, Ok, refl, sym, ap, subst, ◌∙◌, inl, inr}
use Rattle.std.specs.List.{AllByRecursion, flat_map}
use Rattle.dsde_bank.specs.declared.handle.Handle.{Handle}
use Rattle.dsde_syntax.specs.declared.decl.Model.{Model}
use Rattle.dsde_values.specs.declared.path.Path.{Path}
use Rattle.dsde_faults.specs.declared.end.LeafEnd.{LeafEnd}
use Rattle.dsde_sim_tree.specs.given.formalism.leaf_Leaf.{Leaf}
use Rattle.dsde_sim_tree.specs.given.formalism.System.{Ports}
use Rattle.dsde_sim_tree.specs.given.formalism.Leaf.{component_of}
use Rattle.dsde_core_moves.specs.given.system.Program.{system}
use Rattle.dsde_sim_tree.specs.Told.{below, to_boss}
use Rattle.dsde_core_moves.specs.given.grove.Grove.{Grove, value_of}
use Rattle.dsde_sim_tree.specs.declared.sim.Kid.{Kid}
use Rattle.dsde_sim_tree.specs.declared.sim.Net.{Net}
use Rattle.dsde_sim_tree.specs.declared.sim.Sim.{Sim}
use Rattle.dsde_sim_tree.specs.declared.sim.Sim.TheVariants as sim
use Rattle.dsde_sim_tree.specs.declared.sim.Sim.TheOpen.{Net-F}
use Rattle.dsde_sim_tree.specs.declared.sim.Sim.TheViews.{out-Net, out-roll-Net}
use Rattle.dsde_sim_tree.specs.Output.{sent}
use Rattle.dsde_routes_wiring.specs.declared.wiring.Wiring.{Wiring}
use Rattle.dsde_routes_wiring.specs.declared.wiring.WiredKid.{WiredKid}
use Rattle.dsde_routes_wiring.specs.declared.wiring.WiredKid.TheViews.{out-Wiring, out-WiredKid}
use Rattle.dsde_routes_wiring.specs.Opened.{Beneath, each_wiring}
use Rattle.dsde_routes_wiring.specs.Wired.{is_same_handle}
use Rattle.dsde_routes_pushing.specs.Carried.{Traffic}
use Rattle.dsde_routes_pushing.specs.lemmas.Handles.{same-handle}
use Rattle.dsde_routes_pushing.specs.Wire as tree
use Rattle.dsde_routes_pushing.specs.Wire.{IsOf, Places, places, places_of_kid}
use Rattle.dsde_routes_pushing.specs.lemmas.Wires.{places-kid, places-Leaf, places-Net}
use Rattle.dsde_core_moves.specs.given.core_flat.spot_Spot.{Spot}
use Rattle.dsde_core_moves.specs.given.core_flat.spot_Spot_TheVariants as variant
use Rattle.dsde_core_moves.specs.given.core_flat.Places.{place, kid_places, part_places}
use Rattle.dsde_core_moves.specs.given.core_flat.Shown.{args_in, kid_under, leaf_in, model_in, net_under, part_under}
use Rattle.dsde_core_moves.specs.given.core_flat.Stands.{StandsAt}
use Rattle.dsde_core_moves.specs.given.core_flat.lemmas_Apart.{name-shown, sim-shown}
use Rattle.dsde_core_moves.specs.given.core_flat.lemmas_Frame.{all-join, all-left, all-right}
use Rattle.dsde_core_moves.specs.given.core_flat.lemmas_Opened.{OfKid, kid-stands, net-shows, net-stands}
use Rattle.dsde_core_parcels.specs.Traffic.{AllSend, ins_in, outs_in, sent_in, sent_or_none, traffic_of}
use Rattle.dsde_core_parcels.specs.lemmas.TrafficHeld.{leaf-held, net-held}
use Rattle.dsde_core_parcels.proofs.Wiring.{IsTold}

module _ (model : Model) (own : Grove Spot) (top : Handle) (time : ℕ) (got : Ports) (send : AllSend model time own) (top_is : (leaf : Leaf) → value_of own top ≡ Some (variant.Leaf leaf) → ⊥) where
  abbrev pub traffic : Traffic
  traffic = traffic_of (system model) own top time got

  -- a component is not the root
  pub sent-there : (handle : Handle) (leaf : Leaf) → (held : value_of own handle ≡ Some (variant.Leaf leaf)) → traffic.sent handle ≡ (send handle leaf held).ports
  sent-there handle leaf held = by (is_same_handle handle top) refl
    where
      by : (b : Bool) → is_same_handle handle top ≡ b → cond b got (sent_in (system model) time (value_of own handle)) ≡ (send handle leaf held).ports
      by true is = absurd (top_is leaf (ap (value_of own) (sym (same-handle handle top is)) ∙ held))
      by false is = ap (sent_in (system model) time) held ∙ ap sent_or_none (send handle leaf held).is

  module _ (handle : Path → Handle) where
    abbrev Of : tree.Place → Type 0
    Of = IsOf (system model) handle time traffic

    -- a component or an executive
    leaf-of : (at : Handle) (path : Path) → handle path ≡ at → StandsAt own (place at path false) → Of (record { path = path; what = inl (leaf_in (value_of own at)) })
    leaf-of at path is stands =
        let held = leaf-held own (place at path false) stands refl in
        let leaf = held.0 in
        let shown : leaf_in (value_of own at) ≡ leaf = ap leaf_in held.1 in
        let its = send at leaf held.1 in (
          ap (λ (one : Leaf). sent (system model) one time) shown ∙ its.is ∙ ap (λ (ports : Ports). let known : Result Ports LeafEnd = Ok ports in known) (sym (sent-there at leaf held.1) ∙ ap traffic.sent (sym is)),
          ap traffic.ins is ∙ ap (ins_in (system model)) held.1 ∙ ap (λ (one : Leaf). (component_of (system model) one).ins) (sym shown),
        )

    -- a network
    net-of : (at : Handle) (path : Path) → handle path ≡ at → StandsAt own (place at path true) → Of (record { path = path; what = inr (model_in (value_of own at), args_in (value_of own at)) })
    net-of at path is stands =
        let held = net-held own (place at path true) stands refl in (
          ap traffic.ins is ∙ ap (ins_in (system model)) held.2 ∙ sym (ap (λ (spot : Option Spot). ((system model).network (model_in spot) (args_in spot)).ins) held.2),
          ap traffic.outs is ∙ ap (outs_in (system model)) held.2 ∙ sym (ap (λ (spot : Option Spot). ((system model).network (model_in spot) (args_in spot)).outs) held.2),
        )

    abbrev Claim : Wiring → Type 0
    Claim net = (at : Handle) (path : Path) → AllByRecursion (IsTold handle) (part_places at path (Some net)) → AllByRecursion (StandsAt own) (part_places at path (Some net)) → AllByRecursion Of (places (sim.Net (net_under (value_of own) net at)) path)

    part-of : (at : Handle) (path : Path) (inner : Option Wiring) → Beneath Claim inner → AllByRecursion (IsTold handle) (part_places at path inner) → AllByRecursion (StandsAt own) (part_places at path inner) → AllByRecursion Of (places (part_under (value_of own) at inner) path)
    part-of at path None claim told stands = subst (AllByRecursion Of) (sym (places-Leaf (leaf_in (value_of own at)) path)) (leaf-of at path told.0 stands.0, tt)
    part-of at path (Some net) claim told stands = claim at path told stands

    kid-of : (kid : WiredKid) (path : Path) → OfKid Claim kid → AllByRecursion (IsTold handle) (kid_places kid path) → AllByRecursion (StandsAt own) (kid_places kid path) → AllByRecursion Of (places_of_kid (kid_under (value_of own) kid) path)
    kid-of kid path claim told stands =
        let opened = out-WiredKid kid in
        let shown = kid_under (value_of own) kid in
        let each = part-of opened.handle (below path opened.name) opened.below claim (subst (AllByRecursion (IsTold handle)) (kid-stands kid path) told) (subst (AllByRecursion (StandsAt own)) (kid-stands kid path) stands) in
        subst (AllByRecursion Of) (sym (places-kid shown path ∙ (λ i. places (sim-shown (value_of own) kid i) (below path (name-shown (value_of own) kid i))))) each

    kids-of : (kids : List WiredKid) (path : Path) → AllByRecursion (OfKid Claim) kids → AllByRecursion (IsTold handle) (flat_map (λ (kid : WiredKid). kid_places kid path) kids) → AllByRecursion (StandsAt own) (flat_map (λ (kid : WiredKid). kid_places kid path) kids) →
        AllByRecursion Of (flat_map (λ (own : Places). own path) (map places_of_kid (map (kid_under (value_of own)) kids)))
    kids-of [] path claims told stands = tt
    kids-of (kid ∷ kids) path claims told stands =
        let others = flat_map (λ (kid : WiredKid). kid_places kid path) kids in
        all-join Of (places_of_kid (kid_under (value_of own) kid) path) (flat_map (λ (own : Places). own path) (map places_of_kid (map (kid_under (value_of own)) kids)))
        (kid-of kid path claims.0 (all-left (IsTold handle) (kid_places kid path) others told) (all-left (StandsAt own) (kid_places kid path) others stands))
        (kids-of kids path claims.1 (all-right (IsTold handle) (kid_places kid path) others told) (all-right (StandsAt own) (kid_places kid path) others stands))

    net-places : (net : Wiring) → AllByRecursion (OfKid Claim) (out-Wiring net).kids → Claim net
    net-places net claims at path told stands =
        let look = value_of own in
        let opened = out-Wiring net in
        let shown = net_under look net at in
        let made : Net-F Sim Kid Net = record { model = model_in (look at); args = args_in (look at); boss = leaf_in (look opened.boss); kids = map (kid_under look) opened.kids; links = opened.links } in
        let opens : out-Net shown ≡ made = ap out-Net (net-shows look net at) ∙ out-roll-Net made in
        let inner = flat_map (λ (kid : WiredKid). kid_places kid path) opened.kids in
        let last = place opened.boss (to_boss path) false in
        let all_told = subst (AllByRecursion (IsTold handle)) (net-stands net path) told.1 in
        let all_stand = subst (AllByRecursion (StandsAt own)) (net-stands net path) stands.1 in
        let boss_told = (all-right (IsTold handle) inner (last ∷ []) all_told).0 in
        let boss_stands = (all-right (StandsAt own) inner (last ∷ []) all_stand).0 in
        subst (AllByRecursion Of) (sym (places-Net shown path ∙ ap (λ (own : Net-F Sim Kid Net).
        let first : tree.Place = record { path = path; what = inr (own.model, own.args) } in
        let final : tree.Place = record { path = to_boss path; what = inl own.boss } in
        first ∷ flat_map (λ (own : Places). own path) (map places_of_kid own.kids) ++ final ∷ []) opens)) (
          net-of at path told.0 stands.0,
          all-join Of (flat_map (λ (own : Places). own path) (map places_of_kid (map (kid_under look) opened.kids))) _
              (kids-of opened.kids path claims (all-left (IsTold handle) inner (last ∷ []) all_told) (all-left (StandsAt own) inner (last ∷ []) all_stand))
              (leaf-of opened.boss (to_boss path) boss_told boss_stands, tt),
        )

    pub each-of : (net : Wiring) → Claim net
    each-of = each_wiring Claim net-places
