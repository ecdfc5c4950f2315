use Rattle.std.proofs.Common.{rules, ◌≡◌, false, sym, ap, ◌∙◌, subst}
use Rattle.std.specs.List.{AllByRecursion}
use Rattle.dsde_routes_wiring.specs.Places.{below_at, nets_at}
use Rattle.dsde_routes_wiring.specs.Wired.{AreWired}
use Rattle.dsde_repair_walks.specs.Found.{is_named, InOrder, IsOne}
use Rattle.dsde_repair_walks.specs.Places.{IsBelowWired, BelowWired}
use Rattle.dsde_repair_walks.proofs.Finding.{kids-in-order}
use Rattle.dsde_repair.proofs.Passages.{one-wired}
use Rattle.dsde_repair.proofs.Fitted.{match-option, nets-found, nets-missing}
use Rattle.dsde_repair.proofs.wired.+net_at.Goals as goal

pub find_kid-requires : goal.find_kid-requires
find_kid-requires t c = subst InOrder (sym c.as_slice.ensures) (kids-in-order c.args.wiring.now c.requires)

pub net_at-requires : goal.net_at-requires
net_at-requires t c =
    let own : IsBelowWired c.in-Some-find_kid.kid.now = one-wired c.args.wiring.now c.requires c.in-Some.name.now c.as_slice.result.now c.as_slice.ensures c.in-Some-find_kid.kid.now c.in-Some-find_kid.ensures in
    (search rules, subst AreWired (sym c.get.ensures) (subst BelowWired c.in-Some-below.is own))

pub returns-in-None-find_kid : goal.returns-in-None-find_kid
returns-in-None-find_kid t c =
    nets-missing c.args.place.now c.in-Some.rest.now c.in-Some.name.now c.in-Some.ensures.cases.0 c.args.wiring.now
    (subst (AllByRecursion (λ kid. is_named c.in-Some.name.now kid ≡ false)) c.as_slice.ensures c.in-None-find_kid.ensures)

pub returns-in-None-below : goal.returns-in-None-below
returns-in-None-below t c =
    nets-found c.args.place.now c.in-Some.rest.now c.in-Some.name.now c.in-Some.ensures.cases.0 c.args.wiring.now c.in-Some-find_kid.kid.now (subst (λ kids. IsOne c.in-Some.name.now kids c.in-Some-find_kid.kid.now) c.as_slice.ensures c.in-Some-find_kid.ensures)
    ∙ ap (below_at (nets_at c.in-Some.rest.now)) c.in-None-below.is

pub returns-in-Some-below : goal.returns-in-Some-below
returns-in-Some-below t c =
    let here = nets-found c.args.place.now c.in-Some.rest.now c.in-Some.name.now c.in-Some.ensures.cases.0 c.args.wiring.now c.in-Some-find_kid.kid.now (subst (λ kids. IsOne c.in-Some.name.now kids c.in-Some-find_kid.kid.now) c.as_slice.ensures c.in-Some-find_kid.ensures)
    ∙ ap (below_at (nets_at c.in-Some.rest.now)) c.in-Some-below.is ∙ ap (nets_at c.in-Some.rest.now) (sym c.get.ensures) in
    match-option c.net_at.result _ _ _ _ (λ none. here ∙ none) (λ net is. here ∙ is) c.net_at.ensures
