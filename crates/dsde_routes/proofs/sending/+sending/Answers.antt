use Rattle.std.proofs.Common.{◌∙◌, ◌+◌, ap, subst, map, drop, List, arith}
use Rattle.dsde_routes_wiring.specs.given.structure.plan_Link.{Link}
use Rattle.dsde_routes_wiring.specs.given.structure.plan_Part_TheVariants as part
use Rattle.dsde_routes_wiring.specs.declared.wiring.WiredKid.{WiredKid}
use Rattle.dsde_routes_wiring.specs.declared.wiring.WiredKid.TheViews.{out-Wiring, out-WiredKid}
use Rattle.dsde_routes_wiring.specs.Ways.{nowhere}
use Rattle.dsde_routes_wiring.specs.Flatten.{flow_of_kid}
use Rattle.dsde_routes.specs.Passing.{from_parts, passing}
use Rattle.dsde_routes.specs.Sending.{Sends}
use Rattle.dsde_routes.proofs.Flows.{outs-are, outs-list, one-more, kid-name, kid-more, kid-none}
use Rattle.dsde_routes.proofs.Numbered.{ok-if}
use Rattle.dsde_routes.proofs.sending.+sending.Goals as goal

pub outs-returns-clause-list : goal.outs-returns-clause-list
outs-returns-clause-list t c =
    ok-if c.to_net.result _ _
    (λ list is. outs-list c.args.net.now c.in_ok-kids.kids list
    (subst (λ (kids : List WiredKid). Sends c.in_ok-kids.kids (map flow_of_kid kids)) c.as_slice.ensures c.in_ok-kids.ensures)
    (is ∙ ap (λ (links : List Link). passing (from_parts nowhere (out-Wiring c.args.net.now).boss c.in_ok-kids.kids) 0 links part.Net) c.as_slice-2.ensures))
    c.to_net.ensures

pub outs-returns-clause-ports : goal.outs-returns-clause-ports
outs-returns-clause-ports t c =
    ok-if c.to_net.result _ _
    (λ list is. outs-are c.args.net.now c.in_ok-kids.kids list
    (subst (λ (kids : List WiredKid). Sends c.in_ok-kids.kids (map flow_of_kid kids)) c.as_slice.ensures c.in_ok-kids.ensures)
    (is ∙ ap (λ (links : List Link). passing (from_parts nowhere (out-Wiring c.args.net.now).boss c.in_ok-kids.kids) 0 links part.Net) c.as_slice-2.ensures))
    c.to_net.ensures

pub sents-loop-kid-preserved : goal.sents-loop-kid-preserved
sents-loop-kid-preserved t c =
    let all = map flow_of_kid c.args.kids.now in
    one-more (out-WiredKid c.kid-item.result).name c.in_ok-sent.sent c.loop-kid.sents c.add.new.self all (map flow_of_kid (drop (c.loop-kid.kid-index + 1) c.args.kids.now)) (flow_of_kid c.kid-item.result)
    (kid-name c.kid-item.result) c.in_ok-sent.ensures c.in_ok-add.ensures
    (kid-more c.loop-kid.sents all c.args.kids.now c.loop-kid.kid-index c.kid-item.result c.loop-kid-test.true c.kid-item.is c.loop-kid.invariant)

pub sents-returns : goal.sents-returns
sents-returns t c = kid-none c.loop-kid.sents (map flow_of_kid c.args.kids.now) c.args.kids.now c.loop-kid.kid-index (omega arith) c.loop-kid.invariant
