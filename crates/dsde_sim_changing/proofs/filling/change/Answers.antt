use Rattle.std.proofs.Common.{sym, subst, map, List}
use Rattle.std.specs.List.{AllByRecursion}
use Rattle.dsde_sim_tree.specs.Tree.{name_of}
use Rattle.dsde_sim_tree.specs.given.structure.plan_Entry.{Entry}
use Rattle.dsde_sim_tree.specs.given.structure.Survival.{AreInOrder}
use Rattle.dsde_sim_starting.specs.Fitting.{FitsKid}
use Rattle.dsde_sim_tree.specs.declared.sim.Kid.{Kid}
use Rattle.dsde_sim_tree.specs.Move.{survives}
use Rattle.dsde_sim_changing.proofs.Keeping.{each-filter, filter-passes, order-filter, kids-in-order}
use Rattle.dsde_sim_changing.proofs.Choosing.{AllSurvive}
use Rattle.dsde_sim_changing.proofs.filling.change.Goals as goal

pub split-requires-clause-kids : goal.split-requires-clause-kids
split-requires-clause-kids c = kids-in-order c.args.kids c.requires.names

pub refilled-requires-clause-kept : goal.refilled-requires-clause-kept
refilled-requires-clause-kept c =
    subst (AllByRecursion (FitsKid c.args.program.now)) (sym c.in_ok-kept.ensures.kept) (each-filter (FitsKid c.args.program.now) (survives c.as_slice.result.now) c.args.kids c.requires.kids)

pub refilled-requires-clause-names : goal.refilled-requires-clause-names
refilled-requires-clause-names c =
    subst (λ (kids : List Kid). AreInOrder (map name_of kids)) (sym c.in_ok-kept.ensures.kept) (order-filter (survives c.as_slice.result.now) c.args.kids (kids-in-order c.args.kids c.requires.names))

pub refilled-requires-clause-survive : goal.refilled-requires-clause-survive
refilled-requires-clause-survive c =
    subst (λ (entries : List Entry). AllSurvive entries c.in_ok-kept.kept) c.as_slice.ensures
    (subst (AllSurvive c.as_slice.result.now) (sym c.in_ok-kept.ensures.kept) (filter-passes (survives c.as_slice.result.now) c.args.kids))
