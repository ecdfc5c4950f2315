use Rattle.std.proofs.Common.{◌∙◌, ◌++◌, List, sym, ap, append-nil}
use Rattle.dsde_sim_tree.specs.given.formalism.Leaf.{kind_of}
use Rattle.dsde_sim_tree.specs.given.formalism.System.{Ports}
use Rattle.dsde_sim_movers.specs.Deliveries.{Delivery}
use Rattle.dsde_order.proofs.Walked.{called-none, called-some, ok-map}
use Rattle.dsde_order.proofs.walk.add_called.Goals as goal

pub returns-in-Some : goal.returns-in-Some
returns-in-Some c =
    let kind = ap (λ (got : Ports). kind_of c.args.leaf.now c.args.time got) (sym c.as_slice.ensures) ∙ sym c.kind_of.ensures ∙ c.in-Some.is in
    ok-map c.push.result _ _
    (λ is. is ∙ ap (λ (list : List Delivery). c.args.movers.now ++ list) (sym (called-some c.args.leaf.now c.args.path c.args.time c.args.got c.in-Some.field-0 kind)))
    c.push.ensures.ok

pub returns-in-None : goal.returns-in-None
returns-in-None c =
    let none = ap (λ (got : Ports). kind_of c.args.leaf.now c.args.time got) (sym c.as_slice.ensures) ∙ sym c.kind_of.ensures ∙ c.in-None.is in
    sym (ap (λ (list : List Delivery). c.args.movers.now ++ list) (called-none c.args.leaf.now c.args.path c.args.time c.args.got none) ∙ append-nil c.args.movers.now)
