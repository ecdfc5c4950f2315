use Rattle.dsde_atomic.proofs.Bodies.{body-of}
use Rattle.dsde_atomic.proofs.leaf.next_event.Goals as goal

pub due-requires-clause-fits : goal.due-requires-clause-fits
due-requires-clause-fits c = body-of c.args.program.now c.args.model.0 c.args.args.now c.args.state.now c.in_ok-slots.slots c.requires.args c.requires.state c.in_ok-slots.ensures
