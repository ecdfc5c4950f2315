use Rattle.std.proofs.Common.{◌++◌, map, ap, sym, ◌∙◌, subst, arith}
use Rattle.std.specs.List.{AllByRecursion}
use Rattle.dsde_routes_wiring.specs.Routes.{row_of, crossing, links_of}
use Rattle.dsde_routes_wiring.specs.Places.{inside}
use Rattle.dsde_repair_walks.specs.Places.{IsBelowWired}
use Rattle.dsde_repair.specs.Walks.{open_around}
use Rattle.dsde_repair.proofs.Changing.{ok-map}
use Rattle.dsde_repair.proofs.Crossings.{kids-below-wired, net-whole, each-at, item-handles, kids-handles}
use Rattle.dsde_repair.proofs.rows.+adding.Goals as goal

pub net_rows-add_inside-requires : goal.net_rows-add_inside-requires
net_rows-add_inside-requires t c =
    let fewer = kids-handles c.args.net.now c.as_slice.result.now c.as_slice.ensures in
    (omega arith, subst (AllByRecursion IsBelowWired) (sym c.as_slice.ensures) (kids-below-wired c.args.net.now c.requires))

pub add_inside-add_kid-requires : goal.add_inside-add_kid-requires
add_inside-add_kid-requires t c =
    let fewer = item-handles c.args.kids.now c.loop-kid.kid-index c.kid-item.result c.loop-kid-test.true c.kid-item.is in
    (omega arith, each-at IsBelowWired c.args.kids.now c.loop-kid.kid-index c.kid-item.result c.loop-kid.invariant.1 c.loop-kid-test.true c.kid-item.is)

pub net_rows-returns : goal.net_rows-returns
net_rows-returns t c =
    ok-map c.add_inside.result _ _
    (λ is. is ∙ ap (λ rows. rows ++ map row_of (inside c.as_slice.result.now)) c.in_ok-crossing_rows.ensures
    ∙ ap (λ kids. (c.args.rows.now ++ map row_of (crossing (open_around c.args.whole c.args.net.now) (links_of c.args.net.now))) ++ map row_of (inside kids)) c.as_slice.ensures
    ∙ net-whole c.args.whole c.args.net.now c.args.rows.now)
    c.add_inside.ensures
