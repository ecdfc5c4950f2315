-- What follows of the definitions of routes at a network, at a component, and at a changed place.
use Rattle.std.proofs.Common.{◌≡◌, map, sym, ap, ◌∙◌, Option, Some, None}
use Rattle.dsde_bank.specs.declared.handle.Handle.{Handle}
use Rattle.dsde_values.specs.declared.name.Name.{Name}
use Rattle.dsde_routes_wiring.specs.declared.wiring.WiredKid.{WiredKid}
use Rattle.dsde_routes_wiring.specs.declared.wiring.Wiring.{Wiring}
use Rattle.dsde_routes_wiring.specs.declared.wiring.WiredKid.TheFolds.{fold-roll-Wiring, fold-roll-WiredKid}
use Rattle.dsde_routes_wiring.specs.declared.wiring.WiredKid.TheOpen.{Wiring-F, WiredKid-F}
use Rattle.dsde_routes_wiring.specs.declared.wiring.WiredKid.TheViews.{out-Wiring, out-WiredKid, roll-Wiring, roll-WiredKid, roll-out-Wiring, roll-out-WiredKid}
use Rattle.dsde_routes_wiring.specs.Routes.{Inner, net_step, kid_step, below_step, inner_of, inner_of_kid, inner_net, numbered, links_of}

abbrev pub below_inner : Option Wiring → Option Inner
below_inner None = None
below_inner (Some wiring) = Some (inner_of wiring)

pub inner-roll : (y : Wiring-F WiredKid Wiring) → inner_of (roll-Wiring y) ≡ inner_net y.boss (map inner_of_kid y.kids) (numbered y.me y.links)
inner-roll y = fold-roll-Wiring (Name × Inner) Inner kid_step net_step y

pub inner-is : (wiring : Wiring) → inner_of wiring ≡ inner_net (out-Wiring wiring).boss (map inner_of_kid (out-Wiring wiring).kids) (links_of wiring)
inner-is wiring = ap inner_of (sym (roll-out-Wiring wiring)) ∙ inner-roll (out-Wiring wiring)

kid-below : (name : Name) (handle : Handle) (below : Option Wiring) →
    inner_of_kid (roll-WiredKid (record { name = name; handle = handle; below = below })) ≡ (name, below_step handle (below_inner below))
kid-below name handle None = fold-roll-WiredKid (Name × Inner) Inner kid_step net_step (record { name = name; handle = handle; below = None })
kid-below name handle (Some wiring) = fold-roll-WiredKid (Name × Inner) Inner kid_step net_step (record { name = name; handle = handle; below = Some wiring })

pub kid-roll : (y : WiredKid-F WiredKid Wiring) → inner_of_kid (roll-WiredKid y) ≡ (y.name, below_step y.handle (below_inner y.below))
kid-roll y = kid-below y.name y.handle y.below

pub kid-is : (kid : WiredKid) → inner_of_kid kid ≡ ((out-WiredKid kid).name, below_step (out-WiredKid kid).handle (below_inner (out-WiredKid kid).below))
kid-is kid = ap inner_of_kid (sym (roll-out-WiredKid kid)) ∙ kid-roll (out-WiredKid kid)
