use Rattle.std.proofs.Common.{rules, ◌≡◌, ◌<◌, ◌≤◌, [], Bool, not, true, false, refl, ◌++◌, length, get_or, append-nil, sym, ap, ◌∙◌, subst}
use Rattle.std.specs.List.{flat_map, AllByRecursion}
use Rattle.dsde_routes_wiring.specs.declared.wiring.WiredKid.TheViews.{out-Wiring}
use Rattle.dsde_routes_wiring.specs.Routes.{is_border}
use Rattle.dsde_repair_walks.specs.Found.{InOrder, IsOne, is_named}
use Rattle.dsde_repair_walks.proofs.Finding.{kids-in-order, no-items}
use Rattle.dsde_repair_walks.proofs.Serving.{link-none, link-some, numbers-done}
use Rattle.dsde_repair_walks.specs.Walks.{link_at}
use Rattle.dsde_repair_walks.proofs.Walking.{ok-if}
use Rattle.dsde_repair.specs.Walks.{at_ways, over_link, parted_around, parted_ways}
use Rattle.dsde_repair.proofs.Changing.{ok-map}
use Rattle.dsde_repair.proofs.Passages.{link-border, over-nothing, few-over, parted-none, parted-one, parted-net, parted-boss, parted-above, parted-other, parted-leaf, parted-below, one-wired}
use Rattle.dsde_repair.proofs.ways.+parted.Goals as goal

was-other : (b : Bool) → not b ≡ true → b ≡ false
was-other true is = sym is
was-other false is = refl

was-named : (b : Bool) → not b ≡ false → b ≡ true
was-named true is = refl
was-named false is = sym is

pub parted_numbered-returns-in-None : goal.parted_numbered-returns-in-None
parted_numbered-returns-in-None t c =
    sym (ap (λ more. c.args.ways.now ++ more) (link-none (over_link c.args.side (parted_around c.args.passes c.args.name.now c.args.rest.now c.args.net.now) (out-Wiring c.args.net.now).me c.args.port) (out-Wiring c.args.net.now).links c.args.number
    (subst (λ links. length links ≤ c.args.number) c.as_slice.ensures c.in-None.ensures.lookup.3)) ∙ append-nil c.args.ways.now)

pub parted_numbered-returns-then-not-is_border_end : goal.parted_numbered-returns-then-not-is_border_end
parted_numbered-returns-then-not-is_border_end t c =
    let A = parted_around c.args.passes c.args.name.now c.args.rest.now c.args.net.now in
    sym (ap (λ more. c.args.ways.now ++ more) (link-some (over_link c.args.side A (out-Wiring c.args.net.now).me c.args.port) (out-Wiring c.args.net.now).links c.args.number c.in-Some.link.now
    (subst (λ links. c.args.number < length links) c.as_slice.ensures c.in-Some.ensures.lookup.3.0)
    (c.in-Some.ensures.lookup.1 ∙ ap (λ links. get_or links c.args.number c.in-Some.link.now) c.as_slice.ensures)
    ∙ over-nothing c.args.side A (out-Wiring c.args.net.now).me c.args.port c.args.number c.in-Some.link.now (ap (is_border c.args.port) (sym c.near.ensures) ∙ sym c.if-not-is_border_end.ensures))
    ∙ append-nil c.args.ways.now)

pub parted_numbered-returns-in_ok-more-in-Some : goal.parted_numbered-returns-in_ok-more-in-Some
parted_numbered-returns-in_ok-more-in-Some t c =
    let A = parted_around c.args.passes c.args.name.now c.args.rest.now c.args.net.now in
    ok-map c.extend_all.result _ _
    (λ is. is ∙ ap (λ more. c.args.ways.now ++ more)
    (link-border c.args.side A (out-Wiring c.args.net.now).me c.args.port c.args.number c.in-Some.link.now c.in_ok-more-in-Some.more
    (ap (is_border c.args.port) (sym c.near.ensures) ∙ sym c.if-not-is_border_end.ensures)
    (c.in_ok-more-in-Some.ensures ∙ ap (at_ways c.args.side A) c.far.ensures)
    ∙ sym (link-some (over_link c.args.side A (out-Wiring c.args.net.now).me c.args.port) (out-Wiring c.args.net.now).links c.args.number c.in-Some.link.now
    (subst (λ links. c.args.number < length links) c.as_slice.ensures c.in-Some.ensures.lookup.3.0)
    (c.in-Some.ensures.lookup.1 ∙ ap (λ links. get_or links c.args.number c.in-Some.link.now) c.as_slice.ensures))))
    c.extend_all.ensures

pub parted_above-returns : goal.parted_above-returns
parted_above-returns t c =
    let around = parted_around c.args.passes c.args.name.now c.args.rest.now c.args.net.now in
    numbers-done (link_at (over_link c.args.side around (out-Wiring c.args.net.now).me c.args.port) (out-Wiring c.args.net.now).links) c.at_net-numbers.result.now c.loop-number.number-index c.loop-number.ways [] c.loop-number-test.false c.loop-number.invariant
    ∙ ap (flat_map (link_at (over_link c.args.side around (out-Wiring c.args.net.now).me c.args.port) (out-Wiring c.args.net.now).links)) c.at_net-numbers.ensures
    ∙ few-over c.args.side around c.args.net.now c.args.port

pub parted_end-find_kid-requires : goal.parted_end-find_kid-requires
parted_end-find_kid-requires t c = subst InOrder (sym c.as_slice.ensures) (kids-in-order c.args.net.now c.requires)

pub parted_end-parted_kid-requires : goal.parted_end-parted_kid-requires
parted_end-parted_kid-requires t c =
    (search rules, one-wired c.args.net.now c.requires c.in-Kid.wanted c.as_slice.result.now c.as_slice.ensures c.in-Some.kid.now c.in-Some.ensures)

pub parted_end-returns-in-Net : goal.parted_end-returns-in-Net
parted_end-returns-in-Net t c =
    c.new.ensures ∙ sym (parted-net c.args.passes c.args.side c.args.name.now c.args.rest.now c.args.net.now c.args.end.now c.in-Net.is)

pub parted_end-returns-in-Boss : goal.parted_end-returns-in-Boss
parted_end-returns-in-Boss t c =
    ok-if c.own_ways.result _ _
    (λ ways is. is ∙ sym (parted-boss c.args.passes c.args.side c.args.name.now c.args.rest.now c.args.net.now c.args.end.now c.in-Boss.is))
    c.own_ways.ensures

pub parted_end-returns-in-None : goal.parted_end-returns-in-None
parted_end-returns-in-None t c =
    c.new-in-None.ensures ∙ sym (parted-none c.args.passes c.args.side c.args.name.now c.args.rest.now c.args.net.now c.args.end.now c.in-Kid.wanted c.in-Kid.is
    (subst (AllByRecursion (λ kid. is_named c.in-Kid.wanted kid ≡ false)) c.as_slice.ensures c.in-None.ensures))

pub parted_end-returns-in-Some : goal.parted_end-returns-in-Some
parted_end-returns-in-Some t c =
    ok-if c.parted_kid.result _ _
    (λ ways is. is ∙ sym (parted-one c.args.passes c.args.side c.args.name.now c.args.rest.now c.args.net.now c.args.end.now c.in-Kid.wanted c.in-Kid.is c.in-Some.kid.now
    (subst (λ kids. IsOne c.in-Kid.wanted kids c.in-Some.kid.now) c.as_slice.ensures c.in-Some.ensures)))
    c.parted_kid.ensures

pub parted_ways-returns-in-None : goal.parted_ways-returns-in-None
parted_ways-returns-in-None t c =
    ok-if c.ways_here.result _ _
    (λ ways is. is ∙ ap (λ own. parted_ways c.args.passes c.args.side own c.args.net.now c.args.port) (sym (no-items c.args.place.now c.in-None.ensures.cases)))
    c.ways_here.ensures

pub parted_ways-returns-in-Some : goal.parted_ways-returns-in-Some
parted_ways-returns-in-Some t c =
    ok-if c.parted_above.result _ _
    (λ ways is. is ∙ sym (parted-above c.args.passes c.args.side c.args.net.now c.args.place.now c.in-Some.rest.now c.in-Some.name.now c.args.port c.in-Some.ensures.cases.0))
    c.parted_above.ensures

pub parted_kid-returns-then-ne : goal.parted_kid-returns-then-ne
parted_kid-returns-then-ne t c =
    ok-if c.other_ways.result _ _
    (λ ways is. is ∙ sym (parted-other c.args.passes c.args.side c.args.name.now c.args.rest.now c.args.kid.now c.args.port (was-other (is_named c.args.name.now c.args.kid.now) (sym c.if-ne.ensures))))
    c.other_ways.ensures

pub parted_kid-returns-in-None : goal.parted_kid-returns-in-None
parted_kid-returns-in-None t c =
    ok-if c.own_ways.result _ _
    (λ ways is. is ∙ sym (parted-leaf c.args.passes c.args.side c.args.name.now c.args.rest.now c.args.kid.now c.args.port (was-named (is_named c.args.name.now c.args.kid.now) (sym c.if-ne.ensures)) c.in-None.is))
    c.own_ways.ensures

pub parted_kid-returns-in-Some : goal.parted_kid-returns-in-Some
parted_kid-returns-in-Some t c =
    ok-if c.parted_ways.result _ _
    (λ ways is. is ∙ ap (λ own. parted_ways c.args.passes c.args.side c.args.rest.now own c.args.port) c.get.ensures
    ∙ sym (parted-below c.args.passes c.args.side c.args.name.now c.args.rest.now c.args.kid.now c.args.port (was-named (is_named c.args.name.now c.args.kid.now) (sym c.if-ne.ensures)) c.in-Some.below c.in-Some.is))
    c.parted_ways.ensures
