use Rattle.std.proofs.Common.{◌≡◌, true, subst}
use Rattle.std.specs.Prelude.{IfOk}
use Rattle.dsde_sim_tree.specs.given.formalism.leaf_Leaf.{Leaf}
use Rattle.dsde_sim_starting.specs.given.executive.Structure.{IsPlan}
use Rattle.dsde_sim_starting.specs.given.system.Fitting.{FitsLeaf}
use Rattle.dsde_sim_starting.specs.given.system.Program.{system}
use Rattle.dsde_sim_tree.specs.Told.{Comes}
use Rattle.dsde_grove.specs.Grove.{value_of}
use Rattle.dsde_sim_tree.specs.Start.{structure_of}
use Rattle.std.proofs.Common.{sym}
use Rattle.dsde_core_moving.proofs.Follows.{args-fit, leaf-held}
use Rattle.dsde_core_moving.proofs.following.structure_here.Goals as goal

pub structure_of-requires-clause-network : goal.structure_of-requires-clause-network
structure_of-requires-clause-network g c =
    let was = leaf-held (value_of c.args.grove.now c.args.handle) c.in-Some.leaf.now c.in-Some.ensures.leaf in
    subst (λ (leaf : Leaf). (system c.args.program.now).is_network leaf.model ≡ true) was c.requires.network

pub structure_of-requires-clause-args : goal.structure_of-requires-clause-args
structure_of-requires-clause-args g c =
    let was = leaf-held (value_of c.args.grove.now c.args.handle) c.in-Some.leaf.now c.in-Some.ensures.leaf in
    args-fit c.args.program.now c.in-Some.leaf.now (subst (FitsLeaf c.args.program.now) was c.requires.fits)

pub structure_of-requires-clause-boss : goal.structure_of-requires-clause-boss
structure_of-requires-clause-boss g c =
    let was = leaf-held (value_of c.args.grove.now c.args.handle) c.in-Some.leaf.now c.in-Some.ensures.leaf in
    subst (FitsLeaf c.args.program.now) was c.requires.fits

pub returns-clause-comes : goal.returns-clause-comes
returns-clause-comes g c =
    let was = leaf-held (value_of c.args.grove.now c.args.handle) c.in-Some.leaf.now c.in-Some.ensures.leaf in
    subst (λ (leaf : Leaf). Comes (structure_of (system c.args.program.now) leaf.model leaf.args leaf c.args.path.now) c.structure_of.result) (sym was) c.structure_of.ensures.comes

pub returns-clause-fits : goal.returns-clause-fits
returns-clause-fits g c =
    let was = leaf-held (value_of c.args.grove.now c.args.handle) c.in-Some.leaf.now c.in-Some.ensures.leaf in
    subst (λ (leaf : Leaf). IfOk c.structure_of.result (λ plan. IsPlan c.args.program.now leaf.model.0 plan)) (sym was) c.structure_of.ensures.fits
