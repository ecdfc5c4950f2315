use Rattle.std.proofs.Common.{rules, ◌≡◌, false, ◌++◌, map, sym, ap, ◌∙◌, subst, Option}
use Rattle.std.specs.List.{AllByRecursion}
use Rattle.dsde_routes_wiring.specs.declared.wiring.Wiring.{Wiring}
use Rattle.dsde_routes_wiring.specs.declared.wiring.WiredKid.TheViews.{out-Wiring}
use Rattle.dsde_routes_wiring.specs.Routes.{row_of, no_ways}
use Rattle.dsde_routes_wiring.specs.Places.{passing, passing_below, through}
use Rattle.dsde_routes_wiring.specs.Wired.{AreWired}
use Rattle.dsde_repair_walks.specs.Found.{InOrder, is_named}
use Rattle.dsde_repair_walks.specs.Places.{IsBelowWired, BelowWired}
use Rattle.dsde_repair_walks.proofs.Finding.{kids-in-order}
use Rattle.dsde_repair_walks.specs.Found.{IsOne}
use Rattle.dsde_repair.specs.Walks.{kid_routes, passing_kids}
use Rattle.dsde_repair.proofs.Changing.{ok-map}
use Rattle.dsde_repair.proofs.Passages.{one-wired}
use Rattle.dsde_repair.proofs.Thoroughfares.{routes-none, routes-one, passing-routes, none-added, through-above, added-thrice}
use Rattle.dsde_repair.proofs.through.+through.Goals as goal

pub add_beneath-find_kid-requires : goal.add_beneath-find_kid-requires
add_beneath-find_kid-requires t c = subst InOrder (sym c.as_slice.ensures) (kids-in-order c.args.net.now c.requires)

pub add_beneath-add_through-requires : goal.add_beneath-add_through-requires
add_beneath-add_through-requires t c =
    let own : IsBelowWired c.in-Some.kid.now = one-wired c.args.net.now c.requires c.args.name.now c.as_slice.result.now c.as_slice.ensures c.in-Some.kid.now c.in-Some.ensures in
    (search rules, subst AreWired (sym c.get.ensures) (subst BelowWired c.in-Some-below.is own))

pub add_beneath-returns-in-None : goal.add_beneath-returns-in-None
add_beneath-returns-in-None t c =
    none-added c.args.rows.now _ (routes-none c.args.name.now c.args.rest.now (out-Wiring c.args.net.now).kids (subst (AllByRecursion (λ kid. is_named c.args.name.now kid ≡ false)) c.as_slice.ensures c.in-None.ensures))

pub add_beneath-returns-in-None-below : goal.add_beneath-returns-in-None-below
add_beneath-returns-in-None-below t c =
    none-added c.args.rows.now _ (routes-one c.args.name.now c.args.rest.now (out-Wiring c.args.net.now).kids c.in-Some.kid.now (subst (λ kids. IsOne c.args.name.now kids c.in-Some.kid.now) c.as_slice.ensures c.in-Some.ensures)
    ∙ ap (λ (below : Option Wiring). (passing_below (passing c.args.rest.now) below).routes) c.in-None-below.is)

pub add_beneath-returns-in-Some-below : goal.add_beneath-returns-in-Some-below
add_beneath-returns-in-Some-below t c =
    let one : kid_routes (passing_kids c.args.name.now c.args.rest.now (out-Wiring c.args.net.now).kids) ≡ through no_ways c.args.rest.now c.get.result.now =
    routes-one c.args.name.now c.args.rest.now (out-Wiring c.args.net.now).kids c.in-Some.kid.now (subst (λ kids. IsOne c.args.name.now kids c.in-Some.kid.now) c.as_slice.ensures c.in-Some.ensures)
    ∙ ap (λ (below : Option Wiring). (passing_below (passing c.args.rest.now) below).routes) c.in-Some-below.is
    ∙ passing-routes c.args.rest.now c.in-Some-below.below ∙ ap (through no_ways c.args.rest.now) (sym c.get.ensures) in
    ok-map c.add_through.result _ _ (λ is. is ∙ ap (λ own_routes. c.args.rows.now ++ map row_of own_routes) (sym one)) c.add_through.ensures

pub add_through-returns-in_ok-into_all-in-Some : goal.add_through-returns-in_ok-into_all-in-Some
add_through-returns-in_ok-into_all-in-Some t c =
    ok-map c.add_beneath.result _ _
    (λ is. added-thrice c.args.rows.now c.out_all.new.rows c.into_all.new.rows c.add_beneath.new.rows _ _ _ c.in_ok-out_all-in-Some.ensures c.in_ok-into_all-in-Some.ensures is
    ∙ through-above c.args.whole c.args.net.now c.args.place.now c.in-Some.rest.now c.in-Some.name.now c.args.rows.now c.in-Some.ensures.cases.0)
    c.add_beneath.ensures
