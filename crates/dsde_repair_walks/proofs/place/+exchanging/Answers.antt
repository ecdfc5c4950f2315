use Rattle.std.proofs.Common.{rules, sym, ap, ◌∙◌, subst}
use Rattle.dsde_routes_wiring.specs.Wired.{AreWired}
use Rattle.dsde_routes_wiring.specs.Places.{changed, kids_at, renewed}
use Rattle.dsde_repair_walks.specs.Found.{InOrder, IsAt}
use Rattle.dsde_repair_walks.proofs.Finding.{ok-map, kids-in-order, found-wired, no-items, set-there, none-there, kids-found, kids-missing}
use Rattle.dsde_repair_walks.proofs.place.+exchanging.Goals as goal

pub exchange-index_of-requires : goal.exchange-index_of-requires
exchange-index_of-requires t c =
    subst InOrder (sym c.as_slice.ensures) (kids-in-order c.index_links.new.wiring (subst AreWired (sym c.index_links.ensures) c.requires))

pub exchange-exchange_below-requires : goal.exchange-exchange_below-requires
exchange-exchange_below-requires t c =
    (search rules, found-wired c.index_links.new.wiring (subst AreWired (sym c.index_links.ensures) c.requires) c.in-Some.name.now c.in-Some-index_of.index (subst (λ kids. IsAt c.in-Some.name.now kids c.in-Some-index_of.index) c.as_slice.ensures c.in-Some-index_of.ensures) c.in-Some-get_mut.kid.now (sym c.in-Some-get_mut.ensures.value))

pub exchange-returns-in-None-clause-kids : goal.exchange-returns-in-None-clause-kids
exchange-returns-in-None-clause-kids t c =
    c.exchange_here.ensures.kids ∙ ap (λ own. kids_at own c.args.wiring.now) (sym (no-items c.args.place.now c.in-None.ensures.cases))

pub exchange-returns-in-None-clause-wiring : goal.exchange-returns-in-None-clause-wiring
exchange-returns-in-None-clause-wiring t c =
    c.exchange_here.ensures.wiring ∙ ap (λ own. changed own (renewed c.args.links.now c.args.kids.now) c.args.wiring.now) (sym (no-items c.args.place.now c.in-None.ensures.cases))

pub exchange-returns-in-None-index_of-clause-kids : goal.exchange-returns-in-None-index_of-clause-kids
exchange-returns-in-None-index_of-clause-kids t c =
    c.truncate.ensures ∙ sym (kids-missing c.args.place.now c.in-Some.rest.now c.in-Some.name.now c.in-Some.ensures.cases.0 c.index_links.new.wiring (rw c.as_slice.ensures at c.in-None-index_of.ensures))
    ∙ ap (kids_at c.args.place.now) c.index_links.ensures

pub exchange-returns-in-None-index_of-clause-wiring : goal.exchange-returns-in-None-index_of-clause-wiring
exchange-returns-in-None-index_of-clause-wiring t c =
    none-there (renewed c.args.links.now c.args.kids.now) c.args.place.now c.in-Some.rest.now c.in-Some.name.now c.in-Some.ensures.cases.0 c.index_links.new.wiring (rw c.as_slice.ensures at c.in-None-index_of.ensures)
    ∙ ap (changed c.args.place.now (renewed c.args.links.now c.args.kids.now)) c.index_links.ensures

pub exchange-returns-in-Some-get_mut-clause-kids : goal.exchange-returns-in-Some-get_mut-clause-kids
exchange-returns-in-Some-get_mut-clause-kids t c =
    ok-map c.exchange_below.result _ _
    (λ is. is ∙ sym (kids-found c.args.place.now c.in-Some.rest.now c.in-Some.name.now c.in-Some.ensures.cases.0 c.index_links.new.wiring c.in-Some-index_of.index
    (subst (λ kids. IsAt c.in-Some.name.now kids c.in-Some-index_of.index) c.as_slice.ensures c.in-Some-index_of.ensures) c.in-Some-get_mut.kid.now (sym c.in-Some-get_mut.ensures.value))
    ∙ ap (kids_at c.args.place.now) c.index_links.ensures)
    c.exchange_below.ensures.kids

pub exchange-returns-in-Some-get_mut-clause-wiring : goal.exchange-returns-in-Some-get_mut-clause-wiring
exchange-returns-in-Some-get_mut-clause-wiring t c =
    ok-map c.exchange_below.result _ _
    (λ is. set-there (renewed c.args.links.now c.args.kids.now) c.args.place.now c.in-Some.rest.now c.in-Some.name.now c.in-Some.ensures.cases.0 c.index_links.new.wiring c.in-Some-index_of.index
    (subst (λ kids. IsAt c.in-Some.name.now kids c.in-Some-index_of.index) c.as_slice.ensures c.in-Some-index_of.ensures) c.in-Some-get_mut.kid.now c.exchange_below.new.kid (sym c.in-Some-get_mut.ensures.value) is
    ∙ ap (changed c.args.place.now (renewed c.args.links.now c.args.kids.now)) c.index_links.ensures)
    c.exchange_below.ensures.kid
