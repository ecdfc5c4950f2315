use Rattle.std.proofs.Common.{List, [], ap, ◌∙◌}
use Rattle.dsde_routes_wiring.specs.given.structure.plan_Link.{Link}
use Rattle.dsde_routes_wiring.specs.declared.wiring.WiredKid.{WiredKid}
use Rattle.dsde_routes_wiring.specs.Places.{changed, renewed}
use Rattle.dsde_repair_walks.proofs.place.take_out.Goals as goal

pub returns-in-Ok-clause-wiring : goal.returns-in-Ok-clause-wiring
returns-in-Ok-clause-wiring c =
    c.in-Ok.ensures.wiring
    ∙ ap (λ (links : List Link). changed c.args.place.now (renewed links c.new-kids.result) c.args.wiring.now) c.new-links.ensures
    ∙ ap (λ (kids : List WiredKid). changed c.args.place.now (renewed [] kids) c.args.wiring.now) c.new-kids.ensures
