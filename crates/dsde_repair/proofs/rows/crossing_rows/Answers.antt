use Rattle.std.proofs.Common.{◌≡◌, ◌++◌, length, ap, ◌∙◌, arith}
use Rattle.std.specs.List.{flat_map, enumerate_from}
use Rattle.dsde_routes_wiring.specs.declared.wiring.WiredKid.TheViews.{out-Wiring}
use Rattle.dsde_repair.specs.Walks.{open_around, crossed_link}
use Rattle.dsde_repair.proofs.Crossings.{walk-done, all-crossed}
use Rattle.dsde_repair.proofs.rows.crossing_rows.Goals as goal

pub returns : goal.returns
returns c =
    let whole : length c.as_slice-links.result.now ≡ c.loop-number.number = omega arith in
    walk-done (crossed_link (open_around c.args.whole c.args.net.now) (out-Wiring c.args.net.now).me) c.as_slice-links.result.now c.loop-number.number c.loop-number.rows c.args.rows.now whole c.loop-number.invariant
    ∙ ap (λ more. c.args.rows.now ++ more)
    (ap (λ links. flat_map (crossed_link (open_around c.args.whole c.args.net.now) (out-Wiring c.args.net.now).me) (enumerate_from 0 links)) c.as_slice-links.ensures
    ∙ all-crossed (open_around c.args.whole c.args.net.now) c.args.net.now)
