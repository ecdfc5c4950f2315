use Rattle.std.proofs.Common.{◌≡◌, ◌∙◌, sym, subst, slice_set, Some, rules}
use Rattle.dsde_sim_tree.specs.declared.sim.Sim.{Sim}
use Rattle.dsde_sim_tree.specs.Start.{kid_of}
use Rattle.dsde_sim_tree.specs.Tree.{name_of}
use Rattle.dsde_order.specs.Seating.{sim_at, with_sim}
use Rattle.dsde_order.proofs.Components.{set-there, sim-there}
use Rattle.dsde_order.proofs.kids.exchange.Goals as goal

pub returns-clause-kids : goal.returns-clause-kids
returns-clause-kids c =
    let same : c.replace.new.dest ≡ c.args.sim = search rules in
    subst (λ (own : Sim). slice_set c.args.kids.now c.args.index (kid_of (name_of c.in-Some.kid.now) own) ≡ with_sim c.args.index c.args.sim c.args.kids.now) (sym same)
    (set-there c.args.kids.now c.args.index c.in-Some.kid.now c.args.sim (sym c.in-Some.ensures.value))

pub returns-clause-taken : goal.returns-clause-taken
returns-clause-taken c =
    let same : c.replace.result ≡ c.in-Some.kid.now.sim = search rules in
    subst (λ (own : Sim). sim_at c.args.index c.args.kids.now ≡ Some own) (sym same) (sim-there c.args.kids.now c.args.index c.in-Some.kid.now (sym c.in-Some.ensures.value))
