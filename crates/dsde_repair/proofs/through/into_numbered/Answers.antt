use Rattle.std.proofs.Common.{◌<◌, ◌≤◌, ◌++◌, length, get_or, append-nil, ap, sym, subst, ◌∙◌}
use Rattle.dsde_routes_wiring.specs.declared.wiring.WiredKid.TheViews.{out-Wiring}
use Rattle.dsde_routes_wiring.specs.Places.{only}
use Rattle.dsde_repair_walks.specs.Walks.{beyond}
use Rattle.dsde_repair_walks.proofs.Serving.{link-none, link-some}
use Rattle.dsde_repair.specs.Walks.{between_link, passing_kids, past_around}
use Rattle.dsde_repair.proofs.Changing.{ok-map}
use Rattle.dsde_repair.proofs.Thoroughfares.{link-between, none-after}
use Rattle.dsde_repair.proofs.through.into_numbered.Goals as goal

pub returns-in-None : goal.returns-in-None
returns-in-None c =
    sym (ap (λ more. c.args.rows.now ++ more) (link-none (between_link (past_around (beyond c.args.whole (out-Wiring c.args.net.now).me) c.args.name.now c.args.rest.now c.args.net.now) (only (passing_kids c.args.name.now c.args.rest.now (out-Wiring c.args.net.now).kids)) (out-Wiring c.args.net.now).me) (out-Wiring c.args.net.now).links c.args.number
    (subst (λ links. length links ≤ c.args.number) c.as_slice.ensures c.in-None.ensures.lookup.3)) ∙ append-nil c.args.rows.now)

pub returns-then-is_empty : goal.returns-then-is_empty
returns-then-is_empty c =
    sym (ap (λ more. c.args.rows.now ++ more)
    (link-some (between_link (past_around (beyond c.args.whole (out-Wiring c.args.net.now).me) c.args.name.now c.args.rest.now c.args.net.now) (only (passing_kids c.args.name.now c.args.rest.now (out-Wiring c.args.net.now).kids)) (out-Wiring c.args.net.now).me) (out-Wiring c.args.net.now).links c.args.number c.in-Some.link.now
    (subst (λ links. c.args.number < length links) c.as_slice.ensures c.in-Some.ensures.lookup.3.0)
    (c.in-Some.ensures.lookup.1 ∙ ap (λ links. get_or links c.args.number c.in-Some.link.now) c.as_slice.ensures)
    ∙ none-after (past_around (beyond c.args.whole (out-Wiring c.args.net.now).me) c.args.name.now c.args.rest.now c.args.net.now) (only (passing_kids c.args.name.now c.args.rest.now (out-Wiring c.args.net.now).kids)) (out-Wiring c.args.net.now).me c.args.number c.in-Some.link.now c.in_ok-passing-in-Some.passing c.in_ok-passing-in-Some.ensures (c.is_empty.ensures.0 c.if-is_empty.true))
    ∙ append-nil c.args.rows.now)

pub returns-in_ok-past-in-Some : goal.returns-in_ok-past-in-Some
returns-in_ok-past-in-Some c =
    ok-map c.cross.result _ _
    (λ is. is ∙ ap (λ more. c.args.rows.now ++ more)
    (link-between (past_around (beyond c.args.whole (out-Wiring c.args.net.now).me) c.args.name.now c.args.rest.now c.args.net.now) (only (passing_kids c.args.name.now c.args.rest.now (out-Wiring c.args.net.now).kids)) (out-Wiring c.args.net.now).me c.args.number c.in-Some.link.now c.in_ok-past-in-Some.past c.as_slice-onward.result.now c.in_ok-past-in-Some.ensures (c.as_slice-onward.ensures ∙ c.in_ok-passing-in-Some.ensures)
    ∙ sym (link-some (between_link (past_around (beyond c.args.whole (out-Wiring c.args.net.now).me) c.args.name.now c.args.rest.now c.args.net.now) (only (passing_kids c.args.name.now c.args.rest.now (out-Wiring c.args.net.now).kids)) (out-Wiring c.args.net.now).me) (out-Wiring c.args.net.now).links c.args.number c.in-Some.link.now
    (subst (λ links. c.args.number < length links) c.as_slice.ensures c.in-Some.ensures.lookup.3.0)
    (c.in-Some.ensures.lookup.1 ∙ ap (λ links. get_or links c.args.number c.in-Some.link.now) c.as_slice.ensures))))
    c.cross.ensures
