use Rattle.std.proofs.Common.{◌≤◌, ap, arith}
use Rattle.dsde_core_moving.specs.given.core_moves.flat_Flat.{Flat}
use Rattle.dsde_core_moving.specs.given.core_moves.Flat.{tree_of}
use Rattle.dsde_sim_tree.specs.Tree.{parts}
use Rattle.dsde_core.proofs.Resting.{live-is, rests-with}
use Rattle.dsde_core.proofs.turning.settle.Goals as goal

pub thin-requires-clause-within : goal.thin-requires-clause-within
thin-requires-clause-within g c =
    let live = live-is c.requires.stands.0 c.args.flat.now c.requires.stands.1 in
    let within : parts (tree_of c.args.flat.now) ≤ 131072 = c.requires.within in
    omega (arith, live, within)

pub returns-clause-tree : goal.returns-clause-tree
returns-clause-tree g c = ap (λ (flat : Flat). tree_of flat) c.thin.ensures.same

pub returns-clause-rests : goal.returns-clause-rests
returns-clause-rests g c model stands =
    rests-with model c.args.flat.now c.thin.new.flat c.due_time.new.queue c.due_time.result c.thin.ensures.same stands c.requires.within c.due_time.ensures.scheduled c.due_time.ensures.time c.due_time.ensures.least c.due_time.ensures.shorter
    c.thin.ensures.few

pub returns-clause-births : goal.returns-clause-births
returns-clause-births g c = ap (λ (flat : Flat). flat.grove.next_birth) c.thin.ensures.same

pub returns-clause-paid : goal.returns-clause-paid
returns-clause-paid g c = omega (arith, c.thin.ensures.shorter, c.due_time.ensures.ticks)
