use Rattle.dsde_core.proofs.EngineTurning as turning
use Rattle.dsde_core.proofs.engine.Core.tree_of.Goals as goal

pub tree_of-requires : goal.tree_of-requires
tree_of-requires c =
    let i = c.self.inside in
    (turning.rests i.program.now i.spent i.flat i.turn i.time i.taken c.args.self.now c.self.view_is c.self.invariant c.requires).stands.stands

pub returns : goal.returns
returns c =
    let i = c.self.inside in
    turning.shown i.program.now i.spent i.flat i.turn i.time i.taken c.args.self.now c.self.view_is c.self.invariant c.requires c.tree_of.result c.tree_of.ensures
