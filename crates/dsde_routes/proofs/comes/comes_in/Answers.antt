use Rattle.std.proofs.Common.{◌∙◌, ap, subst, map, List}
use Rattle.dsde_routes_wiring.specs.given.structure.plan_Link.{Link}
use Rattle.dsde_routes_wiring.specs.given.structure.plan_Part_TheVariants as part
use Rattle.dsde_routes_wiring.specs.declared.wiring.WiredKid.{WiredKid}
use Rattle.dsde_routes_wiring.specs.declared.wiring.WiredKid.TheViews.{out-Wiring}
use Rattle.dsde_routes_wiring.specs.Flatten.{flow_of_kid}
use Rattle.dsde_routes.specs.Passing.{come_of, from_parts, passing}
use Rattle.dsde_routes.specs.Sending.{Sends}
use Rattle.dsde_routes.proofs.Flows.{ways-found}
use Rattle.dsde_routes.proofs.Numbered.{ok-if}
use Rattle.dsde_routes.proofs.comes.comes_in.Goals as goal

pub returns-clause-boss : goal.returns-clause-boss
returns-clause-boss c =
    ok-if c.carried.result _ _
    (λ comes is. is ∙ ap (λ (links : List Link). passing (from_parts (come_of c.args.come) (out-Wiring c.args.net.now).boss c.in_ok-kids.kids) 0 links part.Boss) c.as_slice-2.ensures
    ∙ ways-found c.args.net.now (come_of c.args.come) c.in_ok-kids.kids (subst (λ (kids : List WiredKid). Sends c.in_ok-kids.kids (map flow_of_kid kids)) c.as_slice.ensures c.in_ok-kids.ensures) part.Boss)
    c.carried.ensures.boss

pub returns-clause-kids : goal.returns-clause-kids
returns-clause-kids c =
    ok-if c.carried.result _ _
    (λ comes is name. is name ∙ ap (λ (links : List Link). passing (from_parts (come_of c.args.come) (out-Wiring c.args.net.now).boss c.in_ok-kids.kids) 0 links (part.Kid name)) c.as_slice-2.ensures
    ∙ ways-found c.args.net.now (come_of c.args.come) c.in_ok-kids.kids (subst (λ (kids : List WiredKid). Sends c.in_ok-kids.kids (map flow_of_kid kids)) c.as_slice.ensures c.in_ok-kids.ensures) (part.Kid name))
    c.carried.ensures.kids
