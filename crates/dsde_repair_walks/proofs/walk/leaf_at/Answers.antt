use Rattle.std.proofs.Common.{List, sym, ◌∙◌, subst}
use Rattle.dsde_routes_wiring.specs.declared.wiring.WiredKid.{WiredKid}
use Rattle.dsde_routes_wiring.specs.declared.wiring.WiredKid.TheViews.{out-Wiring}
use Rattle.dsde_repair_walks.specs.Found.{InOrder, IsOne, IsNoLeaf}
use Rattle.dsde_repair_walks.proofs.Finding.{kids-in-order, none-leaf, one-net, option-then}
use Rattle.dsde_repair_walks.proofs.Walking.{found-ways, at-kid}
use Rattle.dsde_repair_walks.proofs.walk.leaf_at.Goals as goal

pub find_near-requires : goal.find_near-requires
find_near-requires c = subst InOrder (sym c.as_slice.ensures) (kids-in-order c.args.net.now c.requires)

pub returns-in-None : goal.returns-in-None
returns-in-None c =
    subst (IsNoLeaf c.args.net.now) (sym c.in-Kid.is)
    (none-leaf c.in-Kid.name (out-Wiring c.args.net.now).kids (rw c.as_slice.ensures at c.in-None.ensures))

pub returns-in-Some : goal.returns-in-Some
returns-in-Some c =
    let one : IsOne c.in-Kid.name (out-Wiring c.args.net.now).kids c.in-Some.kid.now = subst (λ (kids : List WiredKid). IsOne c.in-Kid.name kids c.in-Some.kid.now) c.as_slice.ensures c.in-Some.ensures in
    option-then c.leaf_of.result _ _ _ _
    (λ net. subst (IsNoLeaf c.args.net.now) (sym c.in-Kid.is) (one-net c.in-Kid.name (out-Wiring c.args.net.now).kids c.in-Some.kid.now one net))
    (λ handle is side. at-kid side c.args.net.now c.args.end.now c.in-Kid.name c.in-Kid.is
    ∙ found-ways side c.in-Kid.name c.args.end.now.port (out-Wiring c.args.net.now).kids one.0 one.1 c.in-Some.kid.now one.2
    ∙ is side c.args.end.now.port)
    c.leaf_of.ensures
