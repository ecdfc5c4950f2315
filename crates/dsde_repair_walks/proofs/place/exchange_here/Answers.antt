use Rattle.std.proofs.Common.{List, [], refl, ap, ◌∙◌}
use Rattle.dsde_routes_wiring.specs.given.structure.plan_Link.{Link}
use Rattle.dsde_routes_wiring.specs.declared.wiring.WiredKid.{WiredKid}
use Rattle.dsde_routes_wiring.specs.Places.{renewed}
use Rattle.dsde_repair_walks.proofs.Finding.{same-kids, written}
use Rattle.dsde_repair_walks.proofs.place.exchange_here.Goals as goal

pub returns-clause-kids : goal.returns-clause-kids
returns-clause-kids c = c.swap-2.ensures.y_after ∙ same-kids c.args.wiring.now c.swap.new.x

pub returns-clause-wiring : goal.returns-clause-wiring
returns-clause-wiring c =
    written c.args.wiring.now c.swap.new.x c.swap-2.new.x [] refl
    ∙ ap (λ (links : List Link). renewed links c.swap-2.new.x c.args.wiring.now) c.swap.ensures.x_after
    ∙ ap (λ (kids : List WiredKid). renewed c.args.links.now kids c.args.wiring.now) c.swap-2.ensures.x_after
