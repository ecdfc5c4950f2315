use Rattle.std.proofs.Common.{◌++◌, ap, ◌∙◌}
use Rattle.std.specs.List.{flat_map}
use Rattle.dsde_routes_wiring.specs.declared.wiring.WiredKid.TheViews.{out-Wiring}
use Rattle.dsde_routes_wiring.specs.Places.{only}
use Rattle.dsde_repair_walks.specs.Walks.{beyond, link_at}
use Rattle.dsde_repair_walks.proofs.Serving.{numbers-done}
use Rattle.dsde_repair.specs.Walks.{between_link, passing_kids, past_around}
use Rattle.dsde_repair.proofs.Thoroughfares.{few-into}
use Rattle.dsde_repair.proofs.through.into_all.Goals as goal

pub returns : goal.returns
returns c =
    numbers-done (link_at (between_link (past_around (beyond c.args.whole (out-Wiring c.args.net.now).me) c.args.name.now c.args.rest.now c.args.net.now) (only (passing_kids c.args.name.now c.args.rest.now (out-Wiring c.args.net.now).kids)) (out-Wiring c.args.net.now).me) (out-Wiring c.args.net.now).links) c.as_slice-numbers.result.now c.loop-number.number-index c.loop-number.rows c.args.rows.now c.loop-number-test.false c.loop-number.invariant
    ∙ ap (λ more. c.args.rows.now ++ more)
    (ap (flat_map (link_at (between_link (past_around (beyond c.args.whole (out-Wiring c.args.net.now).me) c.args.name.now c.args.rest.now c.args.net.now) (only (passing_kids c.args.name.now c.args.rest.now (out-Wiring c.args.net.now).kids)) (out-Wiring c.args.net.now).me) (out-Wiring c.args.net.now).links)) (c.as_slice-numbers.ensures ∙ c.in_ok-found.ensures)
    ∙ few-into c.args.name.now c.args.rest.now (past_around (beyond c.args.whole (out-Wiring c.args.net.now).me) c.args.name.now c.args.rest.now c.args.net.now) c.args.net.now)
