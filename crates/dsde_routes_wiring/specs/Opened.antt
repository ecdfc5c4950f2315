-- What folds over a wiring are at its parts, and induction over wirings.
use Rattle.std.proofs.Common.{◌≡◌, List, [], ◌∷◌, map, refl, sym, ap, ◌∙◌, subst, Option, Some, None}
use Rattle.std.specs.Option.{option_map}
use Rattle.std.specs.List.{AllByRecursion}
use Rattle.dsde_bank.specs.declared.handle.Handle.{Handle}
use Rattle.dsde_values.specs.declared.name.Name.{Name}
use Rattle.dsde_routes_wiring.specs.declared.wiring.Wiring.{Wiring}
use Rattle.dsde_routes_wiring.specs.declared.wiring.WiredKid.{WiredKid}
use Rattle.dsde_routes_wiring.specs.declared.wiring.WiredKid.TheOpen.{Wiring-F, WiredKid-F}
use Rattle.dsde_routes_wiring.specs.declared.wiring.WiredKid.TheFolds.{ind-Wiring, map-WiredKid, map-Wiring, fold-roll-Wiring, fold-roll-WiredKid}
use Rattle.dsde_routes_wiring.specs.declared.wiring.WiredKid.TheViews.{out-Wiring, out-WiredKid, roll-Wiring, roll-WiredKid, roll-out-Wiring, roll-out-WiredKid, out-roll-Wiring, out-roll-WiredKid}
use Rattle.dsde_routes_wiring.specs.Flatten as flow
use Rattle.dsde_routes_wiring.specs.Flatten.{KidFlow, NetFlow, flow, flow_of_kid}
use Rattle.dsde_routes_wiring.specs.Wired as shape
use Rattle.dsde_routes_wiring.specs.Wired.{Shape, KidShapes, shapes, shapes_of_kid}

-- the parts of a wiring and of a component
abbrev pub me_of : Wiring → Handle
me_of net = (out-Wiring net).me

abbrev pub kids_of : Wiring → List WiredKid
kids_of net = (out-Wiring net).kids

abbrev pub below_of : WiredKid → Option Wiring
below_of kid = (out-WiredKid kid).below

-- a component with another thing in place of what is beneath it
module _ {Y Y' Z Z' : Type 0} (f : Y → Z) (g : Y' → Z') where
  abbrev opened : Name → Handle → Option Y' → WiredKid-F Y Y'
  opened name handle below = record { name = name; handle = handle; below = below }

  map-opened : (name : Name) (handle : Handle) (below : Option Y') →
      map-WiredKid Y Y' Z Z' f g (opened name handle below) ≡ record { name = name; handle = handle; below = option_map g below }
  map-opened name handle None = refl
  map-opened name handle (Some own) = refl

  pub map-kid : (kid : WiredKid-F Y Y') →
      map-WiredKid Y Y' Z Z' f g kid ≡ record { name = kid.name; handle = kid.handle; below = option_map g kid.below }
  map-kid kid = map-opened kid.name kid.handle kid.below

-- a fact of what is beneath a component
abbrev pub Beneath : (Wiring → Type 0) → Option Wiring → Type 0
Beneath P None = Unit {0}
Beneath P (Some net) = P net

-- A fact of each wiring, by that of what is beneath its components.
module _ (P : Wiring → Type 0) (of_net : (net : Wiring) → AllByRecursion (λ kid. Beneath P (below_of kid)) (kids_of net) → P net) where
  abbrev OfKid : WiredKid → Type 0
  OfKid kid = Beneath P (below_of kid)

  abbrev K : Type 0
  K = (k : WiredKid) × OfKid k

  abbrev N : Type 0
  N = (n : Wiring) × P n

  of_below : (below : Option N) → Beneath P (option_map (λ (e : N). e.0) below)
  of_below None = tt
  of_below (Some net) = net.1

  of_each : (kids : List K) → AllByRecursion OfKid (map (λ (e : K). e.0) kids)
  of_each [] = tt
  of_each (kid ∷ kids) = (kid.1, of_each kids)

  of_kid : (y : WiredKid-F K N) → OfKid (roll-WiredKid (map-WiredKid K N WiredKid Wiring (λ e. e.0) (λ e. e.0) y))
  of_kid y = subst (λ (b : Option Wiring). Beneath P b) (sym (ap (λ kid. kid.below) (out-roll-WiredKid (map-WiredKid K N WiredKid Wiring (λ e. e.0) (λ e. e.0) y)) ∙ ap (λ kid. kid.below) (map-kid (λ (e : K). e.0) (λ (e : N). e.0) y))) (of_below y.below)

  of_whole : (y : Wiring-F K N) → P (roll-Wiring (map-Wiring K N WiredKid Wiring (λ e. e.0) (λ e. e.0) y))
  of_whole y =
      let opened = map-Wiring K N WiredKid Wiring (λ e. e.0) (λ e. e.0) y in
      of_net (roll-Wiring opened) (subst (λ (kids : List WiredKid). AllByRecursion OfKid kids) (sym (ap (λ net. net.kids) (out-roll-Wiring opened))) (of_each y.kids))

  pub each_wiring : (net : Wiring) → P net
  each_wiring = ind-Wiring OfKid P
      (λ x y is. subst (λ (z : WiredKid-F WiredKid Wiring). OfKid (roll-WiredKid z)) is (of_kid y))
      (λ x y is. subst (λ (z : Wiring-F WiredKid Wiring). P (roll-Wiring z)) is (of_whole y))

abbrev pub flow_opened : Wiring → Wiring-F KidFlow NetFlow
flow_opened net = record { me = me_of net; boss = (out-Wiring net).boss; links = (out-Wiring net).links; kids = map flow_of_kid (kids_of net) }

abbrev pub flow_kid_opened : WiredKid → WiredKid-F KidFlow NetFlow
flow_kid_opened kid = record { name = (out-WiredKid kid).name; handle = (out-WiredKid kid).handle; below = option_map flow (below_of kid) }

pub flow-opens : (net : Wiring) → flow net ≡ flow.net_step (flow_opened net)
flow-opens net = ap flow (sym (roll-out-Wiring net)) ∙ fold-roll-Wiring KidFlow NetFlow flow.kid_step flow.net_step (out-Wiring net)

pub flow_kid-opens : (kid : WiredKid) → flow_of_kid kid ≡ flow.kid_step (flow_kid_opened kid)
flow_kid-opens kid = ap flow_of_kid (sym (roll-out-WiredKid kid)) ∙ fold-roll-WiredKid KidFlow NetFlow flow.kid_step flow.net_step (out-WiredKid kid) ∙ ap flow.kid_step (map-kid flow_of_kid flow (out-WiredKid kid))

abbrev pub shapes_opened : Wiring → Wiring-F KidShapes (List Shape)
shapes_opened net = record { me = me_of net; boss = (out-Wiring net).boss; links = (out-Wiring net).links; kids = map shapes_of_kid (kids_of net) }

abbrev pub shapes_kid_opened : WiredKid → WiredKid-F KidShapes (List Shape)
shapes_kid_opened kid = record { name = (out-WiredKid kid).name; handle = (out-WiredKid kid).handle; below = option_map shapes (below_of kid) }

pub shapes-opens : (net : Wiring) → shapes net ≡ shape.net_step (shapes_opened net)
shapes-opens net = ap shapes (sym (roll-out-Wiring net)) ∙ fold-roll-Wiring KidShapes (List Shape) shape.kid_step shape.net_step (out-Wiring net)

pub shapes_kid-opens : (kid : WiredKid) → shapes_of_kid kid ≡ shape.kid_step (shapes_kid_opened kid)
shapes_kid-opens kid = ap shapes_of_kid (sym (roll-out-WiredKid kid)) ∙ fold-roll-WiredKid KidShapes (List Shape) shape.kid_step shape.net_step (out-WiredKid kid) ∙ ap shape.kid_step (map-kid shapes_of_kid shapes (out-WiredKid kid))
