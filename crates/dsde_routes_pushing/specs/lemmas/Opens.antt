-- What folds over a wiring are at its parts: what links carry.
use Rattle.std.proofs.Common.{◌≡◌, map, sym, ap, ◌∙◌}
use Rattle.std.specs.Option.{option_map}
use Rattle.dsde_routes_wiring.specs.declared.wiring.Wiring.{Wiring}
use Rattle.dsde_routes_wiring.specs.declared.wiring.WiredKid.{WiredKid}
use Rattle.dsde_routes_wiring.specs.declared.wiring.WiredKid.TheOpen.{Wiring-F, WiredKid-F}
use Rattle.dsde_routes_wiring.specs.declared.wiring.WiredKid.TheFolds.{fold-roll-Wiring, fold-roll-WiredKid}
use Rattle.dsde_routes_wiring.specs.declared.wiring.WiredKid.TheViews.{out-Wiring, out-WiredKid, roll-out-Wiring, roll-out-WiredKid}
use Rattle.dsde_routes_wiring.specs.Opened.{me_of, kids_of, below_of, map-kid}
use Rattle.dsde_routes_pushing.specs.Carried as load
use Rattle.dsde_routes_pushing.specs.Carried.{Traffic, KidLoad, NetLoad, load, load_of_kid}

module _ (traffic : Traffic) where
  abbrev pub load_opened : Wiring → Wiring-F KidLoad NetLoad
  load_opened net = record { me = me_of net; boss = (out-Wiring net).boss; links = (out-Wiring net).links; kids = map (load_of_kid traffic) (kids_of net) }

  abbrev pub load_kid_opened : WiredKid → WiredKid-F KidLoad NetLoad
  load_kid_opened kid = record { name = (out-WiredKid kid).name; handle = (out-WiredKid kid).handle; below = option_map (load traffic) (below_of kid) }

  pub load-opens : (net : Wiring) → load traffic net ≡ load.net_step traffic (load_opened net)
  load-opens net = ap (load traffic) (sym (roll-out-Wiring net)) ∙ fold-roll-Wiring KidLoad NetLoad (load.kid_step traffic) (load.net_step traffic) (out-Wiring net)

  pub load_kid-opens : (kid : WiredKid) → load_of_kid traffic kid ≡ load.kid_step traffic (load_kid_opened kid)
  load_kid-opens kid = ap (load_of_kid traffic) (sym (roll-out-WiredKid kid)) ∙ fold-roll-WiredKid KidLoad NetLoad (load.kid_step traffic) (load.net_step traffic) (out-WiredKid kid) ∙ ap (load.kid_step traffic) (map-kid (load_of_kid traffic) (load traffic) (out-WiredKid kid))
