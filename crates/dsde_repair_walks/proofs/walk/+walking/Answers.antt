use Rattle.std.proofs.Common.{[], ◌++◌, ◌<◌, ◌≤◌, get_or, length, sym, ap, ◌∙◌, subst, arith, map, append-nil}
use Rattle.dsde_routes_wiring.specs.declared.wiring.WiredKid.TheViews.{out-Wiring}
use Rattle.dsde_routes_wiring.specs.Routes.{is_border}
use Rattle.dsde_repair_walks.specs.Found.{InOrder, IsAt}
use Rattle.std.specs.List.{flat_map}
use Rattle.dsde_repair_walks.proofs.Serving.{link-none, link-some, numbers-done}
use Rattle.dsde_repair_walks.specs.Walks.{link_at, ranked, extended_way, ways_over, ways_at}
use Rattle.dsde_repair_walks.proofs.Finding.{kids-in-order, found-wired, ok-map}
use Rattle.dsde_repair_walks.proofs.Walking.{over-border, over-none, ways-whole, none-ways, found-ways, fewer-handles, ok-if, at-kid}
use Rattle.dsde_repair_walks.proofs.walk.+walking.Goals as goal

pub ways_of_end-index_of-requires : goal.ways_of_end-index_of-requires
ways_of_end-index_of-requires t c = subst InOrder (sym c.as_slice.ensures) (kids-in-order c.args.net.now c.requires)

pub ways_of_end-ways_of_kid-requires : goal.ways_of_end-ways_of_kid-requires
ways_of_end-ways_of_kid-requires t c =
    let at : IsAt c.in-Kid.name (out-Wiring c.args.net.now).kids c.in-Some.index = subst (λ kids. IsAt c.in-Kid.name kids c.in-Some.index) c.as_slice.ensures c.in-Some.ensures in
    let fewer = fewer-handles c.args.net.now c.in-Kid.name c.in-Some.index at c.in-Some-get.kid.now (sym c.in-Some-get.ensures.value) in
    (omega arith, found-wired c.args.net.now c.requires c.in-Kid.name c.in-Some.index at c.in-Some-get.kid.now (sym c.in-Some-get.ensures.value))

pub ways_of_end-returns-in-None : goal.ways_of_end-returns-in-None
ways_of_end-returns-in-None t c =
    c.new-in-None.ensures ∙ sym (at-kid c.args.side c.args.net.now c.args.end.now c.in-Kid.name c.in-Kid.is
    ∙ ap (map ranked) (none-ways c.args.side c.in-Kid.name c.args.end.now.port (out-Wiring c.args.net.now).kids (rw c.as_slice.ensures at c.in-None.ensures)))

pub ways_of_end-returns-in-Some-get : goal.ways_of_end-returns-in-Some-get
ways_of_end-returns-in-Some-get t c =
    let at : IsAt c.in-Kid.name (out-Wiring c.args.net.now).kids c.in-Some.index = subst (λ kids. IsAt c.in-Kid.name kids c.in-Some.index) c.as_slice.ensures c.in-Some.ensures in
    ok-if c.ways_of_kid.result _ _
    (λ ways is. is ∙ sym (at-kid c.args.side c.args.net.now c.args.end.now c.in-Kid.name c.in-Kid.is
    ∙ found-ways c.args.side c.in-Kid.name c.args.end.now.port (out-Wiring c.args.net.now).kids c.in-Some.index at c.in-Some-get.kid.now (sym c.in-Some-get.ensures.value)))
    c.ways_of_kid.ensures

pub ways_numbered-returns-in-None : goal.ways_numbered-returns-in-None
ways_numbered-returns-in-None t c =
    sym (ap (λ more. c.args.ways.now ++ more) (link-none (ways_over c.args.side c.args.net.now c.args.port) (out-Wiring c.args.net.now).links c.args.number
    (subst (λ links. length links ≤ c.args.number) c.as_slice.ensures c.in-None.ensures.lookup.3)) ∙ append-nil c.args.ways.now)

pub ways_numbered-returns-then-not-is_border_end : goal.ways_numbered-returns-then-not-is_border_end
ways_numbered-returns-then-not-is_border_end t c =
    sym (ap (λ more. c.args.ways.now ++ more) (link-some (ways_over c.args.side c.args.net.now c.args.port) (out-Wiring c.args.net.now).links c.args.number c.in-Some.link.now
    (subst (λ links. c.args.number < length links) c.as_slice.ensures c.in-Some.ensures.lookup.3.0)
    (c.in-Some.ensures.lookup.1 ∙ ap (λ links. get_or links c.args.number c.in-Some.link.now) c.as_slice.ensures)
    ∙ over-none c.args.side c.args.net.now c.args.port c.args.number c.in-Some.link.now (ap (is_border c.args.port) (sym c.near.ensures) ∙ sym c.if-not-is_border_end.ensures))
    ∙ append-nil c.args.ways.now)

pub ways_numbered-returns-in_ok-more-in-Some : goal.ways_numbered-returns-in_ok-more-in-Some
ways_numbered-returns-in_ok-more-in-Some t c =
    ok-map c.extend_all.result _ _
    (λ is. is ∙ ap (λ more. c.args.ways.now ++ more)
    (ap (map (extended_way c.args.side c.args.number c.in-Some.link.now)) (c.in_ok-more-in-Some.ensures ∙ ap (ways_at c.args.side c.args.net.now) c.far.ensures)
    ∙ sym (over-border c.args.side c.args.net.now c.args.port c.args.number c.in-Some.link.now (ap (is_border c.args.port) (sym c.near.ensures) ∙ sym c.if-not-is_border_end.ensures))
    ∙ sym (link-some (ways_over c.args.side c.args.net.now c.args.port) (out-Wiring c.args.net.now).links c.args.number c.in-Some.link.now
    (subst (λ links. c.args.number < length links) c.as_slice.ensures c.in-Some.ensures.lookup.3.0)
    (c.in-Some.ensures.lookup.1 ∙ ap (λ links. get_or links c.args.number c.in-Some.link.now) c.as_slice.ensures))))
    c.extend_all.ensures

pub net_ways-returns : goal.net_ways-returns
net_ways-returns t c =
    numbers-done (link_at (ways_over c.args.side c.args.net.now c.args.port) (out-Wiring c.args.net.now).links) c.at_net-numbers.result.now c.loop-number.number-index c.loop-number.ways [] c.loop-number-test.false c.loop-number.invariant
    ∙ ap (flat_map (link_at (ways_over c.args.side c.args.net.now c.args.port) (out-Wiring c.args.net.now).links)) c.at_net-numbers.ensures
    ∙ ways-whole c.args.side c.args.net.now c.args.port
