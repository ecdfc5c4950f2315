use Rattle.dsde_atomic.proofs.Settling.{leaf-args, leaf-state}
use Rattle.dsde_atomic.proofs.leaf.leaf_moved.Goals as goal

pub transition-requires-clause-args : goal.transition-requires-clause-args
transition-requires-clause-args c = leaf-args c.args.program.now c.args.leaf c.requires.leaf

pub transition-requires-clause-state : goal.transition-requires-clause-state
transition-requires-clause-state c = leaf-state c.args.program.now c.args.leaf c.requires.leaf

pub settled-requires-clause-args : goal.settled-requires-clause-args
settled-requires-clause-args c = leaf-args c.args.program.now c.args.leaf c.requires.leaf
