-- Wirings and places of trees at a component, a network and a component of one.
use Rattle.std.proofs.Common.{◌≡◌, [], ◌∷◌, ◌++◌, map, inl, inr, sym, ap, ◌∙◌, Some, None}
use Rattle.std.specs.List.{flat_map}
use Rattle.dsde_bank.specs.declared.handle.Handle.{Handle}
use Rattle.dsde_values.specs.declared.path.Path.{Path}
use Rattle.dsde_sim_movers.specs.given.formalism.leaf_Leaf.{Leaf}
use Rattle.dsde_sim_movers.specs.given.sim_tree.Told.{below, to_boss}
use Rattle.dsde_sim_movers.specs.given.sim_tree.sim_Kid.{Kid}
use Rattle.dsde_sim_movers.specs.given.sim_tree.sim_Net.{Net}
use Rattle.dsde_sim_movers.specs.given.sim_tree.sim_Sim.{Sim}
use Rattle.dsde_sim_movers.specs.given.sim_tree.sim_Sim_TheFolds.{fold-roll-Sim, fold-roll-Kid, fold-roll-Net}
use Rattle.dsde_sim_movers.specs.given.sim_tree.sim_Sim_TheOpen as layer
use Rattle.dsde_sim_movers.specs.given.sim_tree.sim_Sim_TheVariants as sim
use Rattle.dsde_sim_movers.specs.given.sim_tree.sim_Sim_TheViews.{out-Kid, out-Net, roll-out-Kid, roll-out-Net, rolls-Leaf, rolls-Net}
use Rattle.dsde_routes_wiring.specs.declared.wiring.Wiring.{Wiring}
use Rattle.dsde_routes_wiring.specs.declared.wiring.WiredKid.{WiredKid}
use Rattle.dsde_routes_wiring.specs.declared.wiring.WiredKid.TheOpen.{Wiring-F, WiredKid-F}
use Rattle.dsde_routes_wiring.specs.declared.wiring.WiredKid.TheViews.{out-Wiring, out-WiredKid, out-roll-Wiring, out-roll-WiredKid}
use Rattle.dsde_routes_pushing.specs.Wire.{Wired, WiredAt, NetWired, wire_step, wire_kid, wire_net, wired, wired_kid, wired_net, Places, place_step, place_kid, place_net, places, places_of_kid, places_of_net}

pub places-Leaf : (leaf : Leaf) (path : Path) → places (sim.Leaf leaf) path ≡ record { path = path; what = inl leaf } ∷ []
places-Leaf leaf path =
    ap (λ (s : Sim). places s path) (sym (rolls-Leaf leaf)) ∙ ap (λ (own : Places). own path) (fold-roll-Sim Places Places Places place_step place_kid place_net (layer.Leaf leaf))

pub places-Net : (net : Net) (path : Path) → places (sim.Net net) path ≡
    record { path = path; what = inr ((out-Net net).model, (out-Net net).args) } ∷ flat_map (λ (own : Places). own path) (map places_of_kid (out-Net net).kids) ++ record { path = to_boss path; what = inl (out-Net net).boss } ∷ []
places-Net net path =
    ap (λ (s : Sim). places s path) (sym (rolls-Net net)) ∙ ap (λ (own : Places). own path) (fold-roll-Sim Places Places Places place_step place_kid place_net (layer.Net net))
    ∙ ap (λ (n : Net). places_of_net n path) (sym (roll-out-Net net)) ∙ ap (λ (own : Places). own path) (fold-roll-Net Places Places Places place_step place_kid place_net (out-Net net))

pub places-kid : (kid : Kid) (path : Path) → places_of_kid kid path ≡ places (out-Kid kid).sim (below path (out-Kid kid).name)
places-kid kid path =
    ap (λ (k : Kid). places_of_kid k path) (sym (roll-out-Kid kid)) ∙ ap (λ (own : Places). own path) (fold-roll-Kid Places Places Places place_step place_kid place_net (out-Kid kid))

module _ (handle : Path → Handle) where
  pub wired-Leaf : (leaf : Leaf) (path : Path) → wired handle (sim.Leaf leaf) path ≡ None
  wired-Leaf leaf path =
      ap (λ (s : Sim). wired handle s path) (sym (rolls-Leaf leaf)) ∙ ap (λ (own : Wired). own path) (fold-roll-Sim Wired WiredAt NetWired (wire_step handle) (wire_kid handle) (wire_net handle) (layer.Leaf leaf))

  pub wired-Net : (net : Net) (path : Path) → wired handle (sim.Net net) path ≡ Some (wired_net handle net path)
  wired-Net net path =
      ap (λ (s : Sim). wired handle s path) (sym (rolls-Net net)) ∙ ap (λ (own : Wired). own path) (fold-roll-Sim Wired WiredAt NetWired (wire_step handle) (wire_kid handle) (wire_net handle) (layer.Net net))

  abbrev pub opened_net : Net → Path → Wiring-F WiredKid Wiring
  opened_net net path = record { me = handle path; boss = handle (to_boss path); links = (out-Net net).links; kids = map (λ (kid : WiredAt). kid path) (map (wired_kid handle) (out-Net net).kids) }

  pub wired_net-opens : (net : Net) (path : Path) → out-Wiring (wired_net handle net path) ≡ opened_net net path
  wired_net-opens net path =
      ap (λ (n : Net). out-Wiring (wired_net handle n path)) (sym (roll-out-Net net))
      ∙ ap (λ (own : NetWired). out-Wiring (own path)) (fold-roll-Net Wired WiredAt NetWired (wire_step handle) (wire_kid handle) (wire_net handle) (out-Net net))
      ∙ out-roll-Wiring (opened_net net path)

  abbrev pub opened_kid : Kid → Path → WiredKid-F WiredKid Wiring
  opened_kid kid path = record { name = (out-Kid kid).name; handle = handle (below path (out-Kid kid).name); below = wired handle (out-Kid kid).sim (below path (out-Kid kid).name) }

  pub wired_kid-opens : (kid : Kid) (path : Path) → out-WiredKid (wired_kid handle kid path) ≡ opened_kid kid path
  wired_kid-opens kid path =
      ap (λ (k : Kid). out-WiredKid (wired_kid handle k path)) (sym (roll-out-Kid kid))
      ∙ ap (λ (own : WiredAt). out-WiredKid (own path)) (fold-roll-Kid Wired WiredAt NetWired (wire_step handle) (wire_kid handle) (wire_net handle) (out-Kid kid))
      ∙ out-roll-WiredKid (opened_kid kid path)
